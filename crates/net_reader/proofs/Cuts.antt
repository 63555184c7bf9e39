-- A text that is cut off: its tokens are the first ones of the whole text, where they end with a
-- right brace.
use Rattle.std.proofs.Common.{◌≡◌, ◌⊎◌, inl, inr, ℕ, zero, suc, ◌+◌, ◌-◌, ◌<◌, ◌≤◌, ◌==◌, Bool, true, false, cond, not, nat_lt, List, [], ◌∷◌, ◌++◌, length, take, Option, Some, None, Result, Ok, refl, sym, ◌∙◌, ap, subst, arith}
use Rattle.std.specs.Bool.{⊤}
use Rattle.std.specs.List.{take_while, prefix_len}
use Rattle.std.proofs.lemmas.List.{take-append-le}
use Rattle.std.proofs.lemmas.List.Folds.{length-prefix_len}
use Rattle.std.proofs.lemmas.List.Sums.{prefix_len-le-length}
use Rattle.polis_base.specs.Lists.{Begins}
use Rattle.polis_base.specs.Names.{begins_name, continues_name}
use Rattle.polis_base.specs.Digits.{is_digit, number_of}
use Rattle.polis_base.specs.declared.token.Keyword.{Keyword as Reserved}
use Rattle.polis_base.specs.declared.token.Kind.{Kind}
use Rattle.polis_base.specs.declared.token.Kind.TheVariants.{Number, Sign}
use Rattle.polis_base.specs.declared.token.Sign.TheVariants.{Colon, RightBrace}
use Rattle.polis_base.specs.declared.token.Token.{Token}
use Rattle.polis_base.specs.declared.token.LexError.{LexError}
use Rattle.polis_base.specs.Tokens.{is_blank, keyword_of, word_kind, scan, scan_word, scan_number, scan_sign, bytes_in, joined, tokens_from}
use Rattle.net_reader.specs.Kinds.{class_of}
use Rattle.net_reader.proofs.Marks.{Scanned, token_at, Is, scan_is}
use Rattle.polis_base.proofs.Numbers.{within_or_over}
use Rattle.polis_base.proofs.Spans.{opened}

-- the bytes that pass, where one that doesn't follows

prefix_on : (p : ℕ → Bool) (xs ys : List ℕ) → prefix_len p xs < length xs
    → prefix_len p (xs ++ ys) ≡ prefix_len p xs
prefix_on p [] ys h = absurd (omega (arith, h))
prefix_on p (x ∷ xs) ys h = cases (p x) refl (λ k. prefix_on p xs ys k)
  where
    cases : (b : Bool) → p x ≡ b
        → (prefix_len p xs < length xs → prefix_len p (xs ++ ys) ≡ prefix_len p xs)
        → prefix_len p ((x ∷ xs) ++ ys) ≡ prefix_len p (x ∷ xs)
    cases true e later =
        let k : 1 + prefix_len p xs < suc (length xs) = subst
        (λ b. cond b (1 + prefix_len p xs) 0 < suc (length xs)) e h in
        let less : prefix_len p xs < length xs = omega (arith, k) in
        ap (λ n. cond (p x) (1 + n) 0) (later less)
    cases false e later = rw e refl

while_on : (p : ℕ → Bool) (xs ys : List ℕ) → length (take_while p xs) < length xs
    → take_while p (xs ++ ys) ≡ take_while p xs
while_on p xs ys h =
    let less : prefix_len p xs < length xs = (let e = length-prefix_len p xs in omega (arith, h, e)) in
    ap (λ n. take n (xs ++ ys)) (prefix_on p xs ys less)
    ∙ take-append-le (prefix_len p xs) xs ys (prefix_len-le-length p xs)

pub while_within : (p : ℕ → Bool) (xs : List ℕ) → length (take_while p xs) ≤ length xs
while_within p xs =
    let e = length-prefix_len p xs in let k = prefix_len-le-length p xs in omega (arith, e, k)

-- a place of the text that is cut off, and the same place of the whole text

record Same (f g : Scanned) : Type 0 where
  joins : (at : ℕ) (r : Result (List Token) LexError) → joined g at r ≡ joined f at r
  size : bytes_in g ≡ bytes_in f

-- nothing reads after it
abbrev Faulty : Scanned → Type 0
Faulty f = (at : ℕ) (r : Result (List Token) LexError) (ts : List Token) → joined f at r ≡ Ok ts → ⊥

-- if it reads one token, that isn't a right brace
abbrev NoBrace : Scanned → Type 0
NoBrace f = (at : ℕ) (t : Token) → joined f at (Ok []) ≡ Ok (t ∷ []) → t.kind ≡ Sign RightBrace → ⊥

-- Where what it takes ends before the n bytes that are left do, the same stands in the whole text,
-- and so it does where it is a right brace.
record Fate (n : ℕ) (f g : Scanned) : Type 0 where
  before : bytes_in f ≤ n → Faulty f ⊎ Same f g
  brace : Same f g ⊎ NoBrace f

itself : {f : Scanned} → Same f f
itself = record { joins = λ at r. refl; size = refl }

known : {n : ℕ} {f : Scanned} → Fate n f f
known = record { before = λ h. inr itself; brace = inl itself }

pick : {n : ℕ} (b : Bool) {f f' g g' : Scanned} → Fate n f g → Fate n f' g'
    → Fate n (cond b f f') (cond b g g')
pick true x y = x
pick false x y = y

pub one_of : (t u : Token) → ◌≡◌ {A = Result (List Token) LexError} (Ok (t ∷ [])) (Ok (u ∷ []))
    → t ≡ u
one_of t u h = cc

pub none_of : (t : Token) → ◌≡◌ {A = Result (List Token) LexError} (Ok []) (Ok (t ∷ [])) → ⊥
none_of t h = cc

other_kind : (kind : Kind) (len at : ℕ) (t : Token)
    → ◌≡◌ {A = Result (List Token) LexError} (Ok (token_at kind len at ∷ [])) (Ok (t ∷ []))
    → t.kind ≡ Sign RightBrace → kind ≡ Sign RightBrace
other_kind kind len at t h e = ap (λ (u : Token). u.kind) (one_of (token_at kind len at) t h) ∙ e

word_kind_no : (o : Option Reserved) → word_kind o ≡ Sign RightBrace → ⊥
word_kind_no None h = absurd (omega (arith, ap class_of h))
word_kind_no (Some keyword) h = absurd cc

-- a word or a number: it doesn't read, or has these bytes
long_fate : {n : ℕ} (b : Bool) (x f : Scanned) {g : Scanned} → Faulty x → NoBrace x → NoBrace f
    → (b ≡ false → bytes_in f ≤ n → Same f g) → Fate n (cond b x f) g
long_fate true x f bad off off_too same = record { before = λ h. inl bad; brace = inr off }
long_fate false x f bad off off_too same =
    record { before = λ h. inr (same refl h); brace = inr off_too }

word_fate : (n at : ℕ) (w v : List ℕ) → (length w ≤ n → v ≡ w)
    → Fate n (scan_word at w) (scan_word at v)
word_fate n at w v same =
    long_fate (nat_lt 24 (length w)) _ _ (λ at r ts h. absurd cc) (λ at t h e. absurd cc)
    (λ i t h e. word_kind_no (keyword_of w) (other_kind (word_kind (keyword_of w)) (length w) i t h e))
    (λ short h. record {
      joins = λ i r. ap (λ u. joined (scan_word at u) i r) (same h) ∙ rw short refl;
      size = ap (λ u. bytes_in (scan_word at u)) (same h) ∙ rw short refl;
    })

number_fate : (n at : ℕ) (w v : List ℕ) → (length w ≤ n → v ≡ w)
    → Fate n (scan_number at w) (scan_number at v)
number_fate n at w v same =
    long_fate (nat_lt 4294967295 (number_of w)) _ _ (λ at r ts h. absurd cc) (λ at t h e. absurd cc)
    (λ i t h e. absurd (omega (arith, ap class_of (other_kind (Number (number_of w)) (length w) i t h e))))
    (λ short h. record {
      joins = λ i r. ap (λ u. joined (scan_number at u) i r) (same h) ∙ rw short refl;
      size = ap (λ u. bytes_in (scan_number at u)) (same h) ∙ rw short refl;
    })

-- the last byte
last_fate : {f g : Scanned} → (bytes_in f ≤ 0 → ⊥) → NoBrace f → Fate 0 f g
last_fate some off = record { before = λ h. absurd (some h); brace = inr off }

sign_no : (kind : Kind) (len : ℕ) → (kind ≡ Sign RightBrace → ⊥) → (at : ℕ) (t : Token)
    → ◌≡◌ {A = Result (List Token) LexError} (Ok (token_at kind len at ∷ [])) (Ok (t ∷ []))
    → t.kind ≡ Sign RightBrace → ⊥
sign_no kind len off at t h e = off (other_kind kind len at t h e)

sign_fate : (at c : ℕ) (xs ys : List ℕ)
    → Fate (length xs) (scan_sign at c xs) (scan_sign at c (xs ++ ys))
sign_fate at c (x ∷ xs) ys = known
sign_fate at c [] ys =
    pick (c == 61) known
    (pick (c == 58)
    (last_fate (λ h. omega (arith, h)) (sign_no (Sign Colon) 1 (λ e. omega (arith, ap class_of e))))
    (pick (c == 44) known
    (pick (c == 123) known
    (pick (c == 125) known
    (pick (c == 46) (last_fate (λ h. omega (arith, h)) (λ at t h e. absurd cc))
    (pick (c == 43) known known))))))

fate : (at c : ℕ) (xs ys : List ℕ)
    → Fate (length xs) (scan at (c ∷ xs)) (scan at (c ∷ (xs ++ ys)))
fate at c xs ys =
    pick (is_blank c) known
    (pick (c == 35)
    (record {
      before = λ h. inr (record {
        joins = λ i r. refl;
        size = prefix_on (λ b. not (b == 10)) (c ∷ xs) ys (omega (arith, h));
      });
      brace = inr (λ i t h e. none_of t h);
    })
    (pick (begins_name c)
    (word_fate (length xs) at (take_while continues_name (c ∷ xs))
    (take_while continues_name (c ∷ (xs ++ ys)))
    (λ h. while_on continues_name (c ∷ xs) ys (omega (arith, h))))
    (pick (c == 48) known
    (pick (is_digit c)
    (number_fate (length xs) at (take_while is_digit (c ∷ xs)) (take_while is_digit (c ∷ (xs ++ ys)))
    (λ h. while_on is_digit (c ∷ xs) ys (omega (arith, h))))
    (sign_fate at c xs ys)))))

-- the tokens, if there are any, end with a right brace
abbrev pub Closes : List Token → Type 0
Closes [] = ⊤
Closes (t ∷ []) = t.kind ≡ Sign RightBrace
Closes (t ∷ u ∷ us) = Closes (u ∷ us)

closes_after : (t : Token) (us : List Token) → Closes (t ∷ us) → Closes us
closes_after t [] h = tt
closes_after t (u ∷ us) h = h

begins_more : (t : Token) (us ts : List Token) → Begins us ts → Begins (t ∷ us) (t ∷ ts)
begins_more t us ts b = (b.0, ap (λ (xs : List Token). t ∷ xs) b.1)

-- the same stands at the place in both
goes_on : (f : Scanned) (at : ℕ) (whole r : Result (List Token) LexError) (ts us : List Token)
    → Is f → joined f at whole ≡ Ok ts → joined f at r ≡ Ok us → Closes us
    → ((ts us : List Token) → whole ≡ Ok ts → r ≡ Ok us → Closes us → Begins us ts) → Begins us ts
goes_on f at whole r ts us (inl s) h k e ih =
    ih ts us (sym (s.joins at whole) ∙ h) (sym (s.joins at r) ∙ k) e
goes_on f at whole r ts us (inr (inl s)) h k e ih =
    let t = token_at s.kind s.len at in
    let x = opened t whole ts (sym (s.joins at whole) ∙ h) in
    let y = opened t r us (sym (s.joins at r) ∙ k) in
    let later = ih x.0 y.0 x.1 y.1 (closes_after t y.0 (subst Closes y.2 e)) in
    subst (λ (m : List Token). Begins m ts) (sym y.2)
    (subst (λ (m : List Token). Begins (t ∷ y.0) m) (sym x.2) (begins_more t y.0 x.0 later))
goes_on f at whole r ts us (inr (inr s)) h k e ih = absurd (cc (sym (s.joins at r) ∙ k))

begins_none : (us ts : List Token)
    → ◌≡◌ {A = Result (List Token) LexError} (Ok []) (Ok us) → Begins us ts
begins_none us ts h = let none : [] ≡ us = cc in (ts, ap (λ (m : List Token). m ++ ts) none)

-- nothing of the text that is cut off is left after what stands at the place
ends_here : (f g : Scanned) (at : ℕ) (whole : Result (List Token) LexError) (ts us : List Token)
    → Is f → (Same f g → joined f at whole ≡ Ok ts) → Same f g ⊎ NoBrace f
    → joined f at (Ok []) ≡ Ok us → Closes us → Begins us ts
ends_here f g at whole ts us (inl s) h b k e = begins_none us ts (sym (s.joins at (Ok [])) ∙ k)
ends_here f g at whole ts us (inr (inl s)) h (inl same) k e =
    let t = token_at s.kind s.len at in
    let x = opened t whole ts (sym (s.joins at whole) ∙ h same) in
    let y = opened t (Ok []) us (sym (s.joins at (Ok [])) ∙ k) in
    let none : y.0 ≡ [] = (let z = y.1 in cc) in
    subst (λ (m : List Token). Begins m ts) (sym (y.2 ∙ ap (λ (m : List Token). t ∷ m) none))
    (x.0, x.2)
ends_here f g at whole ts us (inr (inl s)) h (inr off) k e =
    let t = token_at s.kind s.len at in
    let y = opened t (Ok []) us (sym (s.joins at (Ok [])) ∙ k) in
    let none : y.0 ≡ [] = (let z = y.1 in cc) in
    let all : us ≡ t ∷ [] = y.2 ∙ ap (λ (m : List Token). t ∷ m) none in
    absurd (off at t (k ∙ ap Ok all) (subst Closes all e))
ends_here f g at whole ts us (inr (inr s)) h b k e = absurd (cc (sym (s.joins at (Ok [])) ∙ k))

passed_all : (at n : ℕ) (xs : List ℕ) → length xs ≤ n → tokens_from at n xs ≡ Ok []
passed_all at n [] h = refl
passed_all at zero (c ∷ xs) h = absurd (omega (arith, h))
passed_all at (suc n) (c ∷ xs) h = passed_all (at + 1) n xs (omega (arith, h))

-- one place of both
step : (f g : Scanned) (at : ℕ) (xs ys : List ℕ) (ts us : List Token) → Fate (length xs) f g → Is f
    → joined g at (tokens_from (at + 1) (bytes_in g - 1) (xs ++ ys)) ≡ Ok ts
    → joined f at (tokens_from (at + 1) (bytes_in f - 1) xs) ≡ Ok us → Closes us
    → ((ts us : List Token) → tokens_from (at + 1) (bytes_in f - 1) (xs ++ ys) ≡ Ok ts
    → tokens_from (at + 1) (bytes_in f - 1) xs ≡ Ok us → Closes us → Begins us ts) → Begins us ts
step f g at xs ys ts us fate is h k e ih = cases (within_or_over (bytes_in f) (length xs))
  where
    n : ℕ
    n = bytes_in f - 1

    same_whole : Same f g → joined f at (tokens_from (at + 1) n (xs ++ ys)) ≡ Ok ts
    same_whole s =
        sym (s.joins at (tokens_from (at + 1) n (xs ++ ys)))
        ∙ ap (λ m. joined g at (tokens_from (at + 1) (m - 1) (xs ++ ys))) (sym s.size) ∙ h

    on : Faulty f ⊎ Same f g → Begins us ts
    on (inl bad) = absurd (bad at (tokens_from (at + 1) n xs) us k)
    on (inr s) =
        goes_on f at (tokens_from (at + 1) n (xs ++ ys)) (tokens_from (at + 1) n xs) ts us is
        (same_whole s) k e ih

    cases : (bytes_in f ≤ length xs) ⊎ (length xs < bytes_in f) → Begins us ts
    cases (inl p) = on (fate.before p)
    cases (inr p) =
        let nothing : tokens_from (at + 1) n xs ≡ Ok [] = passed_all (at + 1) n xs
        (omega (arith, p)) in
        ends_here f g at (tokens_from (at + 1) n (xs ++ ys)) ts us is same_whole fate.brace
        (sym (ap (joined f at) nothing) ∙ k) e

-- the tokens of the text that is cut off are the first ones of the whole text
pub cut : (at passed : ℕ) (xs ys : List ℕ) (ts us : List Token)
    → tokens_from at passed (xs ++ ys) ≡ Ok ts → tokens_from at passed xs ≡ Ok us → Closes us
    → Begins us ts
cut at passed [] ys ts us h k e = begins_none us ts k
cut at (suc passed) (c ∷ xs) ys ts us h k e = cut (at + 1) passed xs ys ts us h k e
cut at zero (c ∷ xs) ys ts us h k e =
    step (scan at (c ∷ xs)) (scan at (c ∷ (xs ++ ys))) at xs ys ts us (fate at c xs ys)
    (scan_is at c xs) h k e
    (λ ts us h k e. cut (at + 1) (bytes_in (scan at (c ∷ xs)) - 1) xs ys ts us h k e)
