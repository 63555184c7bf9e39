-- A text that is cut off and still declares a network.
use Rattle.std.proofs.Common.{◌≡◌, inl, inr, ℕ, zero, suc, ◌+◌, ◌-◌, ◌≤◌, ◌==◌, Bool, true, false, cond, nat_lt, List, [], ◌∷◌, ◌++◌, length, take, drop, Result, Ok, refl, sym, ◌∙◌, ap, subst, arith, append-nil, length-append, length-drop}
use Rattle.std.specs.Bool.{⊤}
use Rattle.std.specs.List.{take_while}
use Rattle.std.proofs.lemmas.List.{take-append-le, drop-append-le, take-append-drop, length-take}
use Rattle.polis_base.specs.Names.{begins_name, continues_name}
use Rattle.polis_base.specs.Digits.{is_digit, number_of}
use Rattle.polis_base.specs.declared.token.Sign.{Sign as Mark}
use Rattle.polis_base.specs.declared.token.Sign.TheVariants.{Equal, Assign, Colon, Comma, LeftBrace, RightBrace, DotDot, Plus}
use Rattle.polis_base.specs.declared.token.Kind.{Kind}
use Rattle.polis_base.specs.declared.token.Kind.TheVariants.{Number, Name, Sign}
use Rattle.polis_base.specs.declared.token.Token.{Token}
use Rattle.polis_base.specs.declared.token.LexError.{LexError}
use Rattle.polis_base.specs.Tokens.{is_blank, keyword_of, word_kind, scan, scan_word, scan_number, scan_sign, bytes_in, joined as joins, tokens_from, tokens_of}
use Rattle.polis_base.specs.Spans.{slice_of}
use Rattle.net_reader.specs.Lexemes.{Lexeme, lexeme, lexemes}
use Rattle.net_reader.specs.Grammar.{Each, OneAnd, IsMachine, IsNet}
use Rattle.net_reader.specs.Sentences.{HasNet, HasFirstMachines}
use Rattle.net_reader.specs.declared.raw.RawMachine.{RawMachine}
use Rattle.net_reader.specs.declared.raw.RawNet.{RawNet}
use Rattle.net_reader.proofs.LastToken.{net_ends}
use Rattle.net_reader.proofs.Marks.{Scanned, token_at, Is, scan_is}
use Rattle.net_reader.proofs.Cuts.{Closes, one_of, none_of, while_within, cut as first_tokens}
use Rattle.net_reader.proofs.FirstMachines.{GoOn, Starts, starts}
use Rattle.polis_base.proofs.Spans.{opened}

-- it takes no more than n bytes
record Fits (n : ℕ) (f : Scanned) : Type 0 where
  fits : (at : ℕ) (t : Token) → joins f at (Ok []) ≡ Ok (t ∷ []) → t.at + t.len ≤ at + n

pick : {n : ℕ} (b : Bool) {f g : Scanned} → Fits n f → Fits n g → Fits n (cond b f g)
pick true x y = x
pick false x y = y

read_fits : (n len at : ℕ) (kind : Kind) (t : Token) → len ≤ n
    → ◌≡◌ {A = Result (List Token) LexError} (Ok (token_at kind len at ∷ [])) (Ok (t ∷ []))
    → t.at + t.len ≤ at + n
read_fits n len at kind t h e =
    subst (λ (u : Token). u.at + u.len ≤ at + n) (one_of (token_at kind len at) t e)
    (omega (arith, h))

word_fits : (n at : ℕ) (w : List ℕ) → length w ≤ n → Fits n (scan_word at w)
word_fits n at w h =
    pick (nat_lt 24 (length w)) (record { fits = λ i t e. absurd cc })
    (record { fits = λ i t e. read_fits n (length w) i (word_kind (keyword_of w)) t h e })

number_fits : (n at : ℕ) (w : List ℕ) → length w ≤ n → Fits n (scan_number at w)
number_fits n at w h =
    pick (nat_lt 4294967295 (number_of w)) (record { fits = λ i t e. absurd cc })
    (record { fits = λ i t e. read_fits n (length w) i (Number (number_of w)) t h e })

two_bytes : (n : ℕ) (sign : Mark) (at : ℕ) (t : Token)
    → ◌≡◌ {A = Result (List Token) LexError} (Ok (token_at (Sign sign) 2 at ∷ [])) (Ok (t ∷ []))
    → t.at + t.len ≤ at + suc (suc n)
two_bytes n sign at t e = read_fits (suc (suc n)) 2 at (Sign sign) t (omega arith) e

one_byte : (n : ℕ) (sign : Mark) (at : ℕ) (t : Token)
    → ◌≡◌ {A = Result (List Token) LexError} (Ok (token_at (Sign sign) 1 at ∷ [])) (Ok (t ∷ []))
    → t.at + t.len ≤ at + suc n
one_byte n sign at t e = read_fits (suc n) 1 at (Sign sign) t (omega arith) e

sign_fits : (at c : ℕ) (xs : List ℕ) → Fits (suc (length xs)) (scan_sign at c xs)
sign_fits at c [] =
    pick (c == 61) (record { fits = one_byte 0 Equal })
    (pick (c == 58) (record { fits = one_byte 0 Colon })
    (pick (c == 44) (record { fits = one_byte 0 Comma })
    (pick (c == 123) (record { fits = one_byte 0 LeftBrace })
    (pick (c == 125) (record { fits = one_byte 0 RightBrace })
    (pick (c == 46) (record { fits = λ i t e. absurd cc })
    (pick (c == 43) (record { fits = one_byte 0 Plus })
    (record { fits = λ i t e. absurd cc })))))))
sign_fits at c (x ∷ xs) =
    let n = suc (length xs) in
    pick (c == 61) (record { fits = one_byte n Equal })
    (pick (c == 58) (pick (x == 61) (record { fits = two_bytes (length xs) Assign })
    (record { fits = one_byte n Colon }))
    (pick (c == 44) (record { fits = one_byte n Comma })
    (pick (c == 123) (record { fits = one_byte n LeftBrace })
    (pick (c == 125) (record { fits = one_byte n RightBrace })
    (pick (c == 46) (pick (x == 46) (record { fits = two_bytes (length xs) DotDot })
    (record { fits = λ i t e. absurd cc }))
    (pick (c == 43) (record { fits = one_byte n Plus })
    (record { fits = λ i t e. absurd cc })))))))

scan_fits : (at c : ℕ) (xs : List ℕ) → Fits (suc (length xs)) (scan at (c ∷ xs))
scan_fits at c xs =
    pick (is_blank c) (record { fits = λ i t e. absurd (none_of t e) })
    (pick (c == 35) (record { fits = λ i t e. absurd (none_of t e) })
    (pick (begins_name c)
    (word_fits (suc (length xs)) at (take_while continues_name (c ∷ xs))
    (while_within continues_name (c ∷ xs)))
    (pick (c == 48) (record { fits = λ i t e. read_fits (suc (length xs)) 1 i (Number 0) t (omega arith) e })
    (pick (is_digit c)
    (number_fits (suc (length xs)) at (take_while is_digit (c ∷ xs))
    (while_within is_digit (c ∷ xs)))
    (sign_fits at c xs)))))

-- each token ends before this place or at it
abbrev AllIn : ℕ → List Token → Type 0
AllIn end [] = ⊤
AllIn end (t ∷ ts) = (t.at + t.len ≤ end) × AllIn end ts

in_here : (f : Scanned) (at n : ℕ) (r : Result (List Token) LexError) (ts : List Token) → Is f
    → Fits (suc n) f → joins f at r ≡ Ok ts
    → ((us : List Token) → r ≡ Ok us → AllIn (at + suc n) us) → AllIn (at + suc n) ts
in_here f at n r ts (inl s) fit h ih = ih ts (sym (s.joins at r) ∙ h)
in_here f at n r ts (inr (inl s)) fit h ih =
    let t = token_at s.kind s.len at in
    let x = opened t r ts (sym (s.joins at r) ∙ h) in
    subst (AllIn (at + suc n)) (sym x.2) (fit.fits at t (s.joins at (Ok [])), ih x.0 x.1)
in_here f at n r ts (inr (inr s)) fit h ih = absurd (cc (sym (s.joins at r) ∙ h))

all_in : (at passed : ℕ) (bytes : List ℕ) (ts : List Token) → tokens_from at passed bytes ≡ Ok ts
    → AllIn (at + length bytes) ts
all_in at passed [] ts h =
    let none : ◌≡◌ {A = List Token} [] ts = cc in subst (AllIn (at + 0)) none tt
all_in at (suc passed) (c ∷ rest) ts h =
    let e : at + 1 + length rest ≡ at + suc (length rest) = omega arith in
    subst (λ n. AllIn n ts) e (all_in (at + 1) passed rest ts h)
all_in at zero (c ∷ rest) ts h =
    let e : at + 1 + length rest ≡ at + suc (length rest) = omega arith in
    let n = bytes_in (scan at (c ∷ rest)) - 1 in
    in_here (scan at (c ∷ rest)) at (length rest) (tokens_from (at + 1) n rest) ts
    (scan_is at c rest) (scan_fits at c rest) h
    (λ us k. subst (λ n. AllIn n us) e (all_in (at + 1) n rest us k))

same_slice : (text rest : List ℕ) (t : Token) → t.at + t.len ≤ length text
    → slice_of (text ++ rest) t ≡ slice_of text t
same_slice text rest t h =
    let here : t.at ≤ length text = omega (arith, h) in
    let left : t.len ≤ length (drop t.at text) = (let e = length-drop t.at text in omega (arith, h, e)) in
    ap (take t.len) (drop-append-le t.at text rest here)
    ∙ take-append-le t.len (drop t.at text) rest left

same_lexemes : (text rest : List ℕ) (ts : List Token) → AllIn (length text) ts
    → lexemes (text ++ rest) ts ≡ lexemes text ts
same_lexemes text rest [] h = refl
same_lexemes text rest (t ∷ ts) h =
    let bytes = same_slice text rest t h.0 in
    let later = same_lexemes text rest ts h.1 in
    λ i. record { kind = t.kind; bytes = bytes i; at = t.at } ∷ later i

lexemes_append : (text : List ℕ) (ts us : List Token)
    → lexemes text (ts ++ us) ≡ lexemes text ts ++ lexemes text us
lexemes_append text [] us = refl
lexemes_append text (t ∷ ts) us =
    ap (λ (m : List Lexeme). lexeme text t ∷ m) (lexemes_append text ts us)

-- the kind of the first token
abbrev kind_of : List Lexeme → Kind
kind_of [] = Name
kind_of (l ∷ ls) = l.kind

closes_of : (text : List ℕ) (ts : List Token) (before : List Lexeme) (l : Lexeme)
    → lexemes text ts ≡ before ++ l ∷ [] → l.kind ≡ Sign RightBrace → Closes ts
closes_of text [] before l e k = tt
closes_of text (t ∷ []) [] l e k = ap (λ (m : List Lexeme). kind_of m) e ∙ k
closes_of text (t ∷ []) (b ∷ []) l e k = absurd cc
closes_of text (t ∷ []) (b ∷ c ∷ before) l e k = absurd cc
closes_of text (t ∷ u ∷ us) [] l e k = absurd cc
closes_of text (t ∷ u ∷ us) (b ∷ before) l e k =
    let tails : lexemes text (u ∷ us) ≡ before ++ l ∷ [] = cc in
    closes_of text (u ∷ us) before l tails k

-- what a text that is cut off and still declares a network has of what the whole text declares
record Cut (text rest : List ℕ) (cut whole : RawNet) : Type 0 where
  shorter : List Token
  more : List Token
  read : tokens_of text ≡ Ok shorter
  read_whole : tokens_of (text ++ rest) ≡ Ok (shorter ++ more)
  starts : Starts cut whole (lexemes (text ++ rest) more)

cut_of : (text rest : List ℕ) (cut whole : RawNet) → HasNet text cut → HasNet (text ++ rest) whole
    → Cut text rest cut whole
cut_of text rest cut whole f h =
    let ends = net_ends cut (lexemes text f.tokens) f.sentence in
    let closes = closes_of text f.tokens ends.0 ends.1 ends.2 ends.3 in
    let more = first_tokens 0 0 text rest h.tokens f.tokens h.read f.read closes in
    let end : 0 + length text ≡ length text = omega arith in
    let inside : AllIn (length text) f.tokens = subst (λ n. AllIn n f.tokens) end
    (all_in 0 0 text f.tokens f.read) in
    let split : lexemes (text ++ rest) h.tokens ≡ lexemes text f.tokens
    ++ lexemes (text ++ rest) more.0 =
    ap (lexemes (text ++ rest)) more.1 ∙ lexemes_append (text ++ rest) f.tokens more.0
    ∙ ap (λ (m : List Lexeme). m ++ lexemes (text ++ rest) more.0)
    (same_lexemes text rest f.tokens inside) in
    record {
      shorter = f.tokens;
      more = more.0;
      read = f.read;
      read_whole = h.read ∙ ap Ok more.1;
      starts =
          starts (lexemes text f.tokens) (lexemes (text ++ rest) more.0) cut whole f.sentence
          (subst (IsNet whole) split h.sentence);
    }

pub cuts_have : (text rest : List ℕ) (cut whole : RawNet) → HasNet text cut
    → HasNet (text ++ rest) whole → HasFirstMachines cut whole
cuts_have text rest cut whole f h = (cut_of text rest cut whole f h).starts.first

-- as many machines

no_others : (version : ℕ) (ms ns : List RawMachine) (more : List Lexeme) → GoOn version ms ns more
    → length ms ≡ length ns → more ≡ []
no_others version ms ns more g same = cases g.others g.all g.declared
  where
    cases : (others : List RawMachine) → ns ≡ ms ++ others → Each (IsMachine version) others more
        → more ≡ []
    cases [] e d = d
    cases (m ∷ others) e d =
        let n = length-append ms (m ∷ others) in
        let k : length ns ≡ length (ms ++ (m ∷ others)) = ap length e in
        absurd (omega (arith, same, n, k))

no_tokens : (text : List ℕ) (ts : List Token) → lexemes text ts ≡ [] → ts ≡ []
no_tokens text [] e = refl
no_tokens text (t ∷ ts) e = absurd cc

pub cuts_need : (text rest : List ℕ) (cut whole : RawNet) → HasNet text cut
    → HasNet (text ++ rest) whole → length cut.machines ≡ length whole.machines
    → tokens_of (text ++ rest) ≡ tokens_of text
cuts_need text rest cut whole f h same =
    let c = cut_of text rest cut whole f h in
    let none = no_tokens (text ++ rest) c.more
    (no_others cut.version.number cut.machines whole.machines (lexemes (text ++ rest) c.more)
    c.starts.left same) in
    c.read_whole
    ∙ ap (λ (ts : List Token). Ok (c.shorter ++ ts)) none
    ∙ ap Ok (append-nil c.shorter) ∙ sym c.read

some_machine : (version : ℕ) (ms : List RawMachine) (u : List Lexeme)
    → OneAnd (IsMachine version) (IsMachine version) ms u → 1 ≤ length ms
some_machine version [] u f = absurd f
some_machine version (m ∷ ms) u f = omega arith

pub one_needs : (text rest : List ℕ) (cut whole : RawNet) → HasNet text cut
    → HasNet (text ++ rest) whole → length whole.machines ≡ 1
    → tokens_of (text ++ rest) ≡ tokens_of text
one_needs text rest cut whole f h one =
    let b = (cuts_have text rest cut whole f h).machines in
    let some = some_machine cut.version.number cut.machines _ f.sentence.4.4.4.4.4.4 in
    let n = length-append cut.machines b.0 in
    let k : length whole.machines ≡ length (cut.machines ++ b.0) = ap length b.1 in
    let same : length cut.machines ≡ length whole.machines = omega (arith, one, some, n, k) in
    cuts_need text rest cut whole f h same

-- the place after the last token
abbrev pub last_end : List Token → ℕ
last_end [] = 0
last_end (t ∷ []) = t.at + t.len
last_end (t ∷ u ∷ us) = last_end (u ∷ us)

last_within : (end : ℕ) (ts : List Token) → AllIn end ts → last_end ts ≤ end
last_within end [] h = omega arith
last_within end (t ∷ []) h = h.0
last_within end (t ∷ u ∷ us) h = last_within end (u ∷ us) h.1

-- The first k bytes of a text of one machine are a network text only where all of its tokens stand
-- in them.
pub first_bytes_need : (text : List ℕ) (ts : List Token) (k : ℕ) (cut whole : RawNet)
    → tokens_of text ≡ Ok ts → HasNet text whole → length whole.machines ≡ 1
    → HasNet (take k text) cut → last_end ts ≤ k
first_bytes_need text ts k cut whole read h one f =
    let both : take k text ++ drop k text ≡ text = take-append-drop k text in
    let same = one_needs (take k text) (drop k text) cut whole f
    (subst (λ (t : List ℕ). HasNet t whole) (sym both) h) one in
    let there : tokens_of (take k text) ≡ Ok ts = sym same ∙ ap tokens_of both ∙ read in
    let end : 0 + length (take k text) ≡ length (take k text) = omega arith in
    let inside : AllIn (length (take k text)) ts = subst (λ n. AllIn n ts) end
    (all_in 0 0 (take k text) ts there) in
    let less = last_within (length (take k text)) ts inside in
    let few = length-take k text in
    omega (arith, less, few)
