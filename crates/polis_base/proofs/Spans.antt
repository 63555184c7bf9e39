-- The tokens that are read lie in their text, in order.
use Rattle.std.proofs.Common.{◌≡◌, ℕ, zero, suc, ◌+◌, ◌-◌, ◌<◌, ◌≤◌, Bool, true, false, not, cond, nat_le, nat_lt, ◌==◌, List, [], ◌∷◌, length, take, drop, Result, Ok, Err, Option, Some, None, refl, sym, ◌∙◌, ap, subst, arith}
use Rattle.std.specs.List.{list_all, take_while, prefix_len, All, AllByRecursion}
use Rattle.std.proofs.lemmas.List.{drop-drop, length-drop}
use Rattle.std.proofs.lemmas.Bool.{cond_both}
use Rattle.std.proofs.lemmas.Bool.Decides.{nat_tests}
use Rattle.std.proofs.lemmas.List.Folds.{length-prefix_len}
use Rattle.std.proofs.lemmas.List.Sums.{take_while-cons}
use Rattle.std.proofs.lemmas.List.Elements.{All-from_recursion}
use Rattle.polis_base.specs.Names.{begins_name, continues_name, is_word, is_name}
use Rattle.polis_base.specs.inner.Keywords.{keyword_of}
use Rattle.polis_base.specs.Digits.{is_digit, number_of}
use Rattle.polis_base.specs.declared.token.Keyword.{Keyword as Reserved}
use Rattle.polis_base.specs.declared.token.Kind.{Kind}
use Rattle.polis_base.specs.declared.token.Kind.TheVariants.{Name, Number, Sign}
use Rattle.polis_base.specs.declared.token.Token.{Token}
use Rattle.polis_base.specs.declared.token.LexError.{LexError}
use Rattle.polis_base.specs.declared.token.LexError.TheVariants.{BadByte, NameTooLong, NumberTooLarge}
use Rattle.polis_base.specs.declared.token.Sign.{Sign as SignName}
use Rattle.polis_base.specs.declared.token.Sign.TheVariants.{Equal, Assign, Colon, Comma, LeftBrace, RightBrace, DotDot, Plus}
use Rattle.polis_base.specs.declared.lex.Scan.{Scan}
use Rattle.polis_base.specs.declared.lex.Scan.TheVariants.{Skipped, Read, Faulty}
use Rattle.polis_base.specs.Tokens.{scan, scan_word, scan_number, scan_sign, begins_with, word_kind, is_blank, bytes_in, with_token, joined, tokens_from, tokens_of}
use Rattle.polis_base.specs.Spans.{IsToken, AreInOrder}
use Rattle.polis_base.proofs.Scans.{scan_some, scan_within, begins_continues}

-- where a name stands, the bytes are P
abbrev OfName : (ℕ → Type 0) → Scan → Type 0
OfName P f = (n : ℕ) → f ≡ Read Name n → P n

either : (P : ℕ → Type 0) (b : Bool) (f g : Scan) → (b ≡ true → OfName P f)
    → (b ≡ false → OfName P g) → OfName P (cond b f g)
either P b f g first second = cond_both b f g (OfName P) first second

no_skip : (P : ℕ → Type 0) (m : ℕ) → OfName P (Skipped m)
no_skip P m n is = cc

no_fault : (P : ℕ → Type 0) (error : LexError) → OfName P (Faulty error)
no_fault P error n is = cc

no_number : (P : ℕ → Type 0) (m k : ℕ) → OfName P (Read (Number m) k)
no_number P m k n is = cc

no_sign : (P : ℕ → Type 0) (sign : SignName) (k : ℕ) → OfName P (Read (Sign sign) k)
no_sign P sign k n is = cc

both : (P : ℕ → Type 0) (b : Bool) (f g : Scan) → OfName P f → OfName P g → OfName P (cond b f g)
both P true f g first second = first
both P false f g first second = second

-- a sign is no name
sign_no_name : (P : ℕ → Type 0) (at c : ℕ) (rest : List ℕ) → OfName P (scan_sign at c rest)
sign_no_name P at c rest =
    let bad = no_fault P (BadByte at) in
    both P (c == 61) _ _ (no_sign P Equal 1)
    (both P (c == 58) _ _
    (both P (begins_with 61 rest) _ _ (no_sign P Assign 2) (no_sign P Colon 1))
    (both P (c == 44) _ _ (no_sign P Comma 1)
    (both P (c == 123) _ _ (no_sign P LeftBrace 1)
    (both P (c == 125) _ _ (no_sign P RightBrace 1)
    (both P (c == 46) _ _ (both P (begins_with 46 rest) _ _ (no_sign P DotDot 2) bad)
    (both P (c == 43) _ _ (no_sign P Plus 1) bad))))))

no_keyword : (o : Option Reserved) (k n : ℕ) → Read (word_kind o) k ≡ Read Name n
    → (o ≡ None) × (k ≡ n)
no_keyword None k n is = (refl, cc)
no_keyword (Some keyword) k n is = cc

all_pass : (p : ℕ → Bool) (cs : List ℕ) → list_all p (take_while p cs) ≡ true
all_pass p [] = refl
all_pass p (c ∷ cs) =
    rw (take_while-cons p c cs)
    (cond_both (p c) (c ∷ take_while p cs) [] (λ xs. list_all p xs ≡ true)
    (λ e. rw (e, all_pass p cs) refl) (λ e. refl))

word_is_word : (c : ℕ) (rest : List ℕ) → begins_name c ≡ true
    → is_word (take_while continues_name (c ∷ rest)) ≡ true
word_is_word c rest begins =
    rw (
      take_while-cons continues_name c rest,
      begins_continues c begins,
      begins,
      all_pass continues_name rest,
    ) refl

short_word : (n : ℕ) → nat_lt 24 n ≡ false → nat_le n 24 ≡ true
short_word n short = grind (arith, nat_tests)

is_name_from : (word : List ℕ) → nat_lt 24 (length word) ≡ false → is_word word ≡ true
    → keyword_of word ≡ None → is_name word ≡ true
is_name_from word short is free = rw (short_word (length word) short, is, free) refl

-- the word at a place is a name of its bytes
word_name : (at c : ℕ) (rest : List ℕ) → begins_name c ≡ true
    → OfName (λ n. is_name (take n (c ∷ rest)) ≡ true)
    (scan_word at (take_while continues_name (c ∷ rest)))
word_name at c rest begins =
    let P : ℕ → Type 0 = λ k. is_name (take k (c ∷ rest)) ≡ true in
    let word = take_while continues_name (c ∷ rest) in
    let whole : take (length word) (c ∷ rest) ≡ word =
    ap (λ k. take k (c ∷ rest)) (length-prefix_len continues_name (c ∷ rest)) in
    either P (nat_lt 24 (length word)) (Faulty (NameTooLong at))
    (Read (word_kind (keyword_of word)) (length word))
    (λ _. no_fault P (NameTooLong at))
    (λ short n is.
    let parts = no_keyword (keyword_of word) (length word) n is in
    let same : take n (c ∷ rest) ≡ word = ap (λ k. take k (c ∷ rest)) (sym parts.1) ∙ whole in
    ap is_name same ∙ is_name_from word short (word_is_word c rest begins) parts.0)

number_no_name : (P : ℕ → Type 0) (at : ℕ) (digits : List ℕ) → OfName P (scan_number at digits)
number_no_name P at digits =
    both P (nat_lt 4294967295 (number_of digits)) _ _ (no_fault P (NumberTooLarge at))
    (no_number P (number_of digits) (length digits))

name_at : (at c : ℕ) (rest : List ℕ)
    → OfName (λ n. is_name (take n (c ∷ rest)) ≡ true) (scan at (c ∷ rest))
name_at at c rest =
    let P : ℕ → Type 0 = λ k. is_name (take k (c ∷ rest)) ≡ true in
    both P (is_blank c) _ _ (no_skip P 1)
    (both P (c == 35) _ _ (no_skip P (prefix_len (λ b. not (b == 10)) (c ∷ rest)))
    (either P (begins_name c) _ _ (word_name at c rest) (λ _.
    both P (c == 48) _ _ (no_number P 0 1)
    (both P (is_digit c) _ _ (number_no_name P at (take_while is_digit (c ∷ rest)))
    (sign_no_name P at c rest)))))

pub scan_name : (at : ℕ) (bytes : List ℕ) (n : ℕ) → scan at bytes ≡ Read Name n
    → is_name (take n bytes) ≡ true
scan_name at [] n is = cc
scan_name at (c ∷ rest) n is = name_at at c rest n is

-- the token that stands at a place
pub token_here : (text : List ℕ) (at n : ℕ) (kind : Kind) → scan at (drop at text) ≡ Read kind n
    → 0 < n → at + n ≤ length text → IsToken text (record { kind = kind; at = at; len = n })
token_here text at n kind is some within = record {
  some = some;
  within = within;
  longest = is;
  name = λ e. scan_name at (drop at text) n (is ∙ ap (λ k. Read k n) e);
}

-- the tokens lie in the text, from a place on and in order
record Lies (text : List ℕ) (from : ℕ) (tokens : List Token) : Type 0 where
  order : AreInOrder from tokens
  each : AllByRecursion (IsToken text) tokens

lower : (i j : ℕ) (tokens : List Token) → i ≤ j → AreInOrder j tokens → AreInOrder i tokens
lower i j [] less order = tt
lower i j (token ∷ tokens) less order = (omega (arith, order.0), order.1)

pub opened : (token : Token) (read : Result (List Token) LexError) (tokens : List Token)
    → with_token token read ≡ Ok tokens
    → (more : List Token) × (read ≡ Ok more) × (tokens ≡ token ∷ more)
opened token (Ok more) tokens is = (more, refl, cc)
opened token (Err error) tokens is = cc

-- what is read after the first byte lies after it
abbrev AfterLies : List ℕ → ℕ → List ℕ → Type 0
AfterLies text at rest =
    (passed : ℕ) (tokens : List Token) → at + 1 + passed ≤ length text
    → tokens_from (at + 1) passed rest ≡ Ok tokens → Lies text (at + 1 + passed) tokens

here : (text : List ℕ) (at : ℕ) (rest : List ℕ) (f : Scan) → scan at (drop at text) ≡ f
    → 0 < bytes_in f → at + bytes_in f ≤ length text → AfterLies text at rest
    → (tokens : List Token) → joined f at (tokens_from (at + 1) (bytes_in f - 1) rest) ≡ Ok tokens
    → Lies text at tokens
here text at rest (Skipped n) is some within after tokens read =
    let h = after (n - 1) tokens (omega arith) read in
    record { order = lower at (at + 1 + (n - 1)) tokens (omega arith) h.order; each = h.each }
here text at rest (Read kind n) is some within after tokens read =
    let token : Token = record { kind = kind; at = at; len = n } in
    let o = opened token (tokens_from (at + 1) (n - 1) rest) tokens read in
    let h = after (n - 1) o.0 (omega arith) o.1 in
    let this : IsToken text token = token_here text at n kind is some within in
    rw o.2 (record {
      order = (
        omega arith,
        lower (at + n) (at + 1 + (n - 1)) o.0 (omega arith) h.order,
      );
      each = (this, h.each);
    })
here text at rest (Faulty error) is some within after tokens read = cc

lies : (text bytes : List ℕ) (at passed : ℕ) (tokens : List Token) → bytes ≡ drop at text
    → at + passed ≤ length text → tokens_from at passed bytes ≡ Ok tokens
    → Lies text (at + passed) tokens
lies text [] at passed tokens is within read =
    let e : tokens ≡ [] = cc in
    rw e (record { order = tt; each = tt })
lies text (c ∷ rest) at (suc passed) tokens is within read =
    let after : rest ≡ drop (at + 1) text = ap (drop 1) is ∙ drop-drop 1 at text in
    let e : at + 1 + passed ≡ at + suc passed = omega arith in
    subst (λ (i : ℕ). Lies text i tokens) e
    (lies text rest (at + 1) passed tokens after (omega arith) read)
lies text (c ∷ rest) at zero tokens is within read =
    let after : rest ≡ drop (at + 1) text = ap (drop 1) is ∙ drop-drop 1 at text in
    let bytes = c ∷ rest in
    let left : length bytes ≡ length text - at = ap length is ∙ length-drop at text in
    let some : 0 < bytes_in (scan at bytes) = scan_some at bytes (omega arith) in
    let fits : bytes_in (scan at bytes) ≤ length bytes = scan_within at bytes (omega arith) in
    let same : scan at (drop at text) ≡ scan at bytes = ap (scan at) (sym is) in
    let h =
    here text at rest (scan at bytes) same some (omega arith)
    (λ p ts w r. lies text rest (at + 1) p ts after w r) tokens read in
    let e : at ≡ at + zero = omega arith in
    subst (λ (i : ℕ). Lies text i tokens) e h

pub tokens_lie : (text : List ℕ) (tokens : List Token) → tokens_of text ≡ Ok tokens
    → All (IsToken text) tokens
tokens_lie text tokens read =
    All-from_recursion (IsToken text) tokens
    (lies text text 0 0 tokens refl (omega arith) read).each

pub tokens_in_order : (text : List ℕ) (tokens : List Token) → tokens_of text ≡ Ok tokens
    → AreInOrder 0 tokens
tokens_in_order text tokens read = (lies text text 0 0 tokens refl (omega arith) read).order

pub none_read : (error : LexError) (tokens : List Token)
    → ◌≡◌ {A = Result (List Token) LexError} (Err error) (Ok tokens) → ⊥
none_read error tokens h = cc
