-- Tokens up to the first that doesn't read, with a mark in its place.
use Rattle.std.proofs.Common.{◌≡◌, ◌⊎◌, inl, inr, ℕ, zero, suc, ◌+◌, ◌-◌, ◌≤◌, ◌==◌, Bool, true, false, cond, nat_lt, List, [], ◌∷◌, ◌++◌, length, drop, Option, Result, Ok, Err, refl, sym, ◌∙◌, ap, subst, arith}
use Rattle.std.specs.List.{take_while}
use Rattle.std.specs.Result.{result_err}
use Rattle.polis_base.specs.Names.{begins_name, continues_name}
use Rattle.polis_base.specs.Digits.{is_digit, number_of}
use Rattle.polis_base.specs.declared.token.Kind.{Kind}
use Rattle.polis_base.specs.declared.token.Kind.TheVariants.{Keyword, Number, Sign}
use Rattle.polis_base.specs.declared.token.Keyword.TheVariants.{KwSettle}
use Rattle.polis_base.specs.declared.token.Sign.TheVariants.{Equal, Assign, Colon, Comma, LeftBrace, RightBrace, DotDot, Plus}
use Rattle.polis_base.specs.declared.token.Token.{Token}
use Rattle.polis_base.specs.declared.token.LexError.{LexError}
use Rattle.polis_base.specs.declared.token.LexError.TheVariants.{BadByte, NameTooLong, NumberTooLarge}
use Rattle.polis_base.specs.Tokens.{is_blank, begins_with, keyword_of, word_kind, scan, scan_word, scan_number, scan_sign, bytes_in, with_token, joined, tokens_from, tokens_after, mark, marked, marked_from, marked_after}
use Rattle.polis_base.specs.Tokens.{fault_of}
use Rattle.net_reader.specs.Lexemes.{Lexeme, lexeme, lexemes}
use Rattle.net_reader.specs.Pieces.{place_of}
use Rattle.polis_base.proofs.Spans.{none_read}

-- what stands at a place: bytes of no token, a token, or one that doesn't read

abbrev pub answer_of : {A B C : Type 0} → (A → B → C) → Type 0
answer_of {A} {B} {C} f = C

-- what the bytes at a place may begin with: the answers of `scan`, whose cases have no names here
abbrev pub Scanned : Type 0
Scanned = answer_of scan

abbrev pub token_at : Kind → ℕ → ℕ → Token
token_at kind len at = record { kind = kind; at = at; len = len }

pub record Skips (f : Scanned) : Type 0 where
  pub joins : (at : ℕ) (r : Result (List Token) LexError) → joined f at r ≡ r
  pub marks : (at left : ℕ) (ts : List Token) → marked f at left ts ≡ ts

pub record Reads (f : Scanned) : Type 0 where
  pub kind : Kind
  pub len : ℕ
  pub joins : (at : ℕ) (r : Result (List Token) LexError)
      → joined f at r ≡ with_token (token_at kind len at) r
  pub marks : (at left : ℕ) (ts : List Token) → marked f at left ts ≡ token_at kind len at ∷ ts

pub record Fails (f : Scanned) : Type 0 where
  pub error : LexError
  pub joins : (at : ℕ) (r : Result (List Token) LexError) → joined f at r ≡ Err error
  pub marks : (at left : ℕ) (ts : List Token) → marked f at left ts ≡ mark at left ∷ []

abbrev pub Is : Scanned → Type 0
Is f = Skips f ⊎ (Reads f ⊎ Fails f)

pick : (b : Bool) {x y : Scanned} → Is x → Is y → Is (cond b x y)
pick true x y = x
pick false x y = y

skips : {f : Scanned} → ((at : ℕ) (r : Result (List Token) LexError) → joined f at r ≡ r)
    → ((at left : ℕ) (ts : List Token) → marked f at left ts ≡ ts) → Is f
skips joins marks = inl (record { joins = joins; marks = marks })

reads : {f : Scanned} (kind : Kind) (len : ℕ)
    → ((at : ℕ) (r : Result (List Token) LexError)
    → joined f at r ≡ with_token (token_at kind len at) r)
    → ((at left : ℕ) (ts : List Token) → marked f at left ts ≡ token_at kind len at ∷ ts) → Is f
reads kind len joins marks =
    inr (inl (record { kind = kind; len = len; joins = joins; marks = marks }))

fails : {f : Scanned} (error : LexError)
    → ((at : ℕ) (r : Result (List Token) LexError) → joined f at r ≡ Err error)
    → ((at left : ℕ) (ts : List Token) → marked f at left ts ≡ mark at left ∷ []) → Is f
fails error joins marks = inr (inr (record { error = error; joins = joins; marks = marks }))

word_is : (at : ℕ) (word : List ℕ) → Is (scan_word at word)
word_is at word =
    pick (nat_lt 24 (length word)) (fails (NameTooLong at) (λ _ _. refl) (λ _ _ _. refl))
    (reads (word_kind (keyword_of word)) (length word) (λ _ _. refl) (λ _ _ _. refl))

number_is : (at : ℕ) (digits : List ℕ) → Is (scan_number at digits)
number_is at digits =
    pick (nat_lt 4294967295 (number_of digits))
    (fails (NumberTooLarge at) (λ _ _. refl) (λ _ _ _. refl))
    (reads (Number (number_of digits)) (length digits) (λ _ _. refl) (λ _ _ _. refl))

sign_is : (at c : ℕ) (rest : List ℕ) → Is (scan_sign at c rest)
sign_is at c rest =
    pick (c == 61) (reads (Sign Equal) 1 (λ _ _. refl) (λ _ _ _. refl))
    (pick (c == 58) (pick (begins_with 61 rest)
    (reads (Sign Assign) 2 (λ _ _. refl) (λ _ _ _. refl))
    (reads (Sign Colon) 1 (λ _ _. refl) (λ _ _ _. refl)))
    (pick (c == 44) (reads (Sign Comma) 1 (λ _ _. refl) (λ _ _ _. refl))
    (pick (c == 123) (reads (Sign LeftBrace) 1 (λ _ _. refl) (λ _ _ _. refl))
    (pick (c == 125) (reads (Sign RightBrace) 1 (λ _ _. refl) (λ _ _ _. refl))
    (pick (c == 46) (pick (begins_with 46 rest)
    (reads (Sign DotDot) 2 (λ _ _. refl) (λ _ _ _. refl))
    (fails (BadByte at) (λ _ _. refl) (λ _ _ _. refl)))
    (pick (c == 43) (reads (Sign Plus) 1 (λ _ _. refl) (λ _ _ _. refl))
    (fails (BadByte at) (λ _ _. refl) (λ _ _ _. refl))))))))

pub scan_is : (at c : ℕ) (rest : List ℕ) → Is (scan at (c ∷ rest))
scan_is at c rest =
    pick (is_blank c) (skips (λ _ _. refl) (λ _ _ _. refl))
    (pick (c == 35) (skips (λ _ _. refl) (λ _ _ _. refl))
    (pick (begins_name c) (word_is at (take_while continues_name (c ∷ rest)))
    (pick (c == 48) (reads (Number 0) 1 (λ _ _. refl) (λ _ _ _. refl))
    (pick (is_digit c) (number_is at (take_while is_digit (c ∷ rest)))
    (sign_is at c rest)))))

-- where all reads

token_read : (token : Token) (r : Result (List Token) LexError) (ms tokens : List Token)
    → with_token token r ≡ Ok tokens → ((ts : List Token) → r ≡ Ok ts → ms ≡ ts)
    → token ∷ ms ≡ tokens
token_read token (Ok ts) ms tokens h ih =
    let same : token ∷ ts ≡ tokens = cc in
    ap (λ (xs : List Token). token ∷ xs) (ih ts refl) ∙ same
token_read token (Err error) ms tokens h ih = absurd cc

reads_here : (f : Scanned) (at left : ℕ) (r : Result (List Token) LexError) (ms tokens : List Token)
    → Is f → joined f at r ≡ Ok tokens → ((ts : List Token) → r ≡ Ok ts → ms ≡ ts)
    → marked f at left ms ≡ tokens
reads_here f at left r ms tokens (inl s) h ih =
    s.marks at left ms ∙ ih tokens (sym (s.joins at r) ∙ h)
reads_here f at left r ms tokens (inr (inl s)) h ih =
    s.marks at left ms
    ∙ token_read (token_at s.kind s.len at) r ms tokens (sym (s.joins at r) ∙ h) ih
reads_here f at left r ms tokens (inr (inr s)) h ih =
    absurd (none_read s.error tokens (sym (s.joins at r) ∙ h))

pub reads_marked : (at passed : ℕ) (bytes : List ℕ) (tokens : List Token)
    → tokens_from at passed bytes ≡ Ok tokens → marked_from at passed bytes ≡ tokens
reads_marked at passed [] tokens h = cc
reads_marked at (suc passed) (c ∷ rest) tokens h = reads_marked (at + 1) passed rest tokens h
reads_marked at zero (c ∷ rest) tokens h =
    let n = bytes_in (scan at (c ∷ rest)) - 1 in
    reads_here (scan at (c ∷ rest)) at (length (c ∷ rest)) (tokens_from (at + 1) n rest)
    (marked_from (at + 1) n rest) tokens (scan_is at c rest) h
    (λ ts e. reads_marked (at + 1) n rest ts e)

-- where one doesn't read

abbrev pub EndsMarked : List Token → Type 0
EndsMarked ts =
    (before : List Token) × (m : Token) × (ts ≡ before ++ m ∷ []) × (m.kind ≡ Keyword KwSettle)

token_faulty : (token : Token) (r : Result (List Token) LexError) (ms : List Token)
    (fault : LexError) → with_token token r ≡ Err fault
    → ((error : LexError) → r ≡ Err error → EndsMarked ms) → EndsMarked (token ∷ ms)
token_faulty token (Ok ts) ms fault h ih = absurd cc
token_faulty token (Err error) ms fault h ih =
    let m = ih error refl in
    (token ∷ m.0, m.1, ap (λ (xs : List Token). token ∷ xs) m.2, m.3)

fault_here : (f : Scanned) (at left : ℕ) (r : Result (List Token) LexError) (ms : List Token)
    (fault : LexError) → Is f → joined f at r ≡ Err fault
    → ((error : LexError) → r ≡ Err error → EndsMarked ms) → EndsMarked (marked f at left ms)
fault_here f at left r ms fault (inl s) h ih =
    subst EndsMarked (sym (s.marks at left ms)) (ih fault (sym (s.joins at r) ∙ h))
fault_here f at left r ms fault (inr (inl s)) h ih =
    subst EndsMarked (sym (s.marks at left ms))
    (token_faulty (token_at s.kind s.len at) r ms fault (sym (s.joins at r) ∙ h) ih)
fault_here f at left r ms fault (inr (inr s)) h ih =
    subst EndsMarked (sym (s.marks at left ms)) ([], mark at left, refl, refl)

pub fault_marked : (at passed : ℕ) (bytes : List ℕ) (fault : LexError)
    → tokens_from at passed bytes ≡ Err fault → EndsMarked (marked_from at passed bytes)
fault_marked at passed [] fault h = absurd cc
fault_marked at (suc passed) (c ∷ rest) fault h = fault_marked (at + 1) passed rest fault h
fault_marked at zero (c ∷ rest) fault h =
    let n = bytes_in (scan at (c ∷ rest)) - 1 in
    fault_here (scan at (c ∷ rest)) at (length (c ∷ rest)) (tokens_from (at + 1) n rest)
    (marked_from (at + 1) n rest) fault (scan_is at c rest) h
    (λ e is. fault_marked (at + 1) n rest e is)

-- from the place of one of them on the first fault is the same

record SameFault (at passed : ℕ) (bytes : List ℕ) (place : ℕ) : Type 0 where
  after : at ≤ place
  same : result_err (tokens_from place 0 (drop (place - at) bytes))
      ≡ result_err (tokens_from at passed bytes)

one_on : (at place c : ℕ) (rest : List ℕ) (x : Option LexError) → at + 1 ≤ place
    → result_err (tokens_from place 0 (drop (place - (at + 1)) rest)) ≡ x
    → result_err (tokens_from place 0 (drop (place - at) (c ∷ rest))) ≡ x
one_on at place c rest x after same =
    let e : place - at ≡ suc (place - (at + 1)) = omega (arith, after) in
    ap (λ n. result_err (tokens_from place 0 (drop n (c ∷ rest)))) e ∙ same

at_place : (at place : ℕ) (bytes : List ℕ) → place ≡ at → SameFault at 0 bytes place
at_place at place bytes e =
    let none : at - at ≡ 0 = omega arith in
    subst (λ (p : ℕ). SameFault at 0 bytes p) (sym e) (record {
      after = omega arith;
      same = ap (λ n. result_err (tokens_from at 0 (drop n bytes))) none;
    })

none_there : (ts after : List Token) (token : Token) → [] ≡ ts ++ token ∷ after → ⊥
none_there [] after token h = cc
none_there (t ∷ ts) after token h = cc

with_fault : (token : Token) (r : Result (List Token) LexError)
    → result_err r ≡ result_err (with_token token r)
with_fault token (Ok tokens) = refl
with_fault token (Err error) = refl

head_same : (a b : Token) (xs ys : List Token) → a ∷ xs ≡ b ∷ ys → a ≡ b
head_same a b xs ys h = cc

tail_same : (a b : Token) (xs ys : List Token) → a ∷ xs ≡ b ∷ ys → xs ≡ ys
tail_same a b xs ys h = cc

same_here : (at c : ℕ) (rest : List ℕ) (f : Scanned) (n : ℕ) (ms before after : List Token)
    (token : Token) → Is f
    → tokens_from at 0 (c ∷ rest) ≡ joined f at (tokens_from (at + 1) n rest)
    → marked f at (length (c ∷ rest)) ms ≡ before ++ token ∷ after
    → ((ts : List Token) → ms ≡ ts ++ token ∷ after → SameFault (at + 1) n rest token.at)
    → SameFault at 0 (c ∷ rest) token.at
same_here at c rest f n ms before after token (inl s) is h ih =
    let k = ih before (sym (s.marks at (length (c ∷ rest)) ms) ∙ h) in
    record {
      after = omega (arith, k.after);
      same = one_on at token.at c rest _ k.after k.same
          ∙ ap result_err (sym (is ∙ s.joins at (tokens_from (at + 1) n rest)));
    }
same_here at c rest f n ms [] after token (inr (inl s)) is h ih =
    let here = token_at s.kind s.len at in
    let same : here ≡ token =
    head_same here token ms after (sym (s.marks at (length (c ∷ rest)) ms) ∙ h) in
    at_place at token.at (c ∷ rest) (ap (λ (t : Token). t.at) (sym same))
same_here at c rest f n ms (t ∷ before) after token (inr (inl s)) is h ih =
    let here = token_at s.kind s.len at in
    let k = ih before (tail_same here t ms (before ++ token ∷ after)
    (sym (s.marks at (length (c ∷ rest)) ms) ∙ h)) in
    record {
      after = omega (arith, k.after);
      same = one_on at token.at c rest _ k.after k.same
          ∙ with_fault here (tokens_from (at + 1) n rest)
          ∙ ap result_err (sym (is ∙ s.joins at (tokens_from (at + 1) n rest)));
    }
same_here at c rest f n ms [] after token (inr (inr s)) is h ih =
    let here : Token = mark at (length (c ∷ rest)) in
    let same : here ≡ token =
    head_same here token [] after (sym (s.marks at (length (c ∷ rest)) ms) ∙ h) in
    at_place at token.at (c ∷ rest) (ap (λ (t : Token). t.at) (sym same))
same_here at c rest f n ms (t ∷ before) after token (inr (inr s)) is h ih =
    let here : Token = mark at (length (c ∷ rest)) in
    absurd (none_there before after token (tail_same here t [] (before ++ token ∷ after)
    (sym (s.marks at (length (c ∷ rest)) ms) ∙ h)))

same_fault : (at passed : ℕ) (bytes : List ℕ) (before after : List Token) (token : Token)
    → marked_from at passed bytes ≡ before ++ token ∷ after → SameFault at passed bytes token.at
same_fault at passed [] before after token h = absurd (none_there before after token h)
same_fault at (suc passed) (c ∷ rest) before after token h =
    let k = same_fault (at + 1) passed rest before after token h in
    record {
      after = omega (arith, k.after);
      same = one_on at token.at c rest _ k.after k.same;
    }
same_fault at zero (c ∷ rest) before after token h =
    let n = bytes_in (scan at (c ∷ rest)) - 1 in
    same_here at c rest (scan at (c ∷ rest)) n (marked_from (at + 1) n rest) before after token
    (scan_is at c rest) refl h (λ ts e. same_fault (at + 1) n rest ts after token e)

lexeme_head : (l m : Lexeme) (ls ms : List Lexeme) → l ∷ ls ≡ m ∷ ms → l ≡ m
lexeme_head l m ls ms h = cc

lexeme_tail : (l m : Lexeme) (ls ms : List Lexeme) → l ∷ ls ≡ m ∷ ms → ls ≡ ms
lexeme_tail l m ls ms h = cc

-- the token of a lexeme, with those around it
abbrev HasToken : List ℕ → List Token → Lexeme → Type 0
HasToken text ts l =
    (before : List Token) × (token : Token) × (after : List Token)
    × (ts ≡ before ++ token ∷ after) × (l ≡ lexeme text token)

token_of : (text : List ℕ) (ts : List Token) (before rest : List Lexeme) (l : Lexeme)
    → lexemes text ts ≡ before ++ l ∷ rest → HasToken text ts l
token_of text [] [] rest l h = absurd cc
token_of text [] (m ∷ before) rest l h = absurd cc
token_of text (t ∷ ts) [] rest l h =
    ([], t, ts, refl, sym (lexeme_head (lexeme text t) l (lexemes text ts) rest h))
token_of text (t ∷ ts) (m ∷ before) rest l h =
    let k = token_of text ts before rest l
    (lexeme_tail (lexeme text t) m (lexemes text ts) (before ++ l ∷ rest) h) in
    (t ∷ k.0, k.1, k.2, ap (λ (xs : List Token). t ∷ xs) k.3, k.4)

-- from where reading stopped on, or from the start where nothing is left
pub fault_from : (text : List ℕ) (before rest : List Lexeme)
    → lexemes text (marked_after text 0) ≡ before ++ rest
    → result_err (tokens_after text (place_of 0 rest)) ≡ fault_of text
fault_from text before [] h = refl
fault_from text before (l ∷ rest) h =
    let k = token_of text (marked_after text 0) before rest l h in
    let f = same_fault 0 0 text k.0 k.2 k.1 k.3 in
    let e : l.at ≡ k.1.at = ap (λ (m : Lexeme). m.at) k.4 in
    let n : k.1.at ≡ k.1.at - 0 = omega arith in
    ap (λ p. result_err (tokens_after text p)) e
    ∙ ap (λ p. result_err (tokens_from k.1.at 0 (drop p text))) n
    ∙ f.same
