-- Texts cut at a byte.
use Rattle.std.proofs.Common.{◌≡◌, ℕ, ◌+◌, ◌^◌, ◌<◌, ◌≤◌, ◌%◌, Bool, true, false, not, ◌==◌, List, [], ◌∷◌, ◌++◌, refl, ap, sym, ◌∙◌, arith, append_assoc, decimal}
use Rattle.std.specs.Prelude.{nat_lt}
use Rattle.std.specs.List.{list_all}
use Rattle.std.proofs.lemmas.Bool.{and_parts, and_from, eqb-true, eq-eqb, ne_eqb, not_from_false, ltb-true}
use Rattle.std.proofs.lemmas.Fmt.{decimal_by_steps, decimal_injective}
use Rattle.std.proofs.lemmas.List.Folds.{list_all-append}
use Rattle.polis_base.specs.Lines.{line}
use Rattle.task_code.specs.Listings.{numbers}

-- no byte of the text is the mark
abbrev pub lacks : ℕ → List ℕ → Bool
lacks mark text = list_all (λ c. not (c == mark)) text

not_mark : (c mark : ℕ) → c ≡ mark → not (c == mark) ≡ true → ⊥
not_mark c mark is differs =
    let e : not (c == mark) ≡ false = ap not (eq-eqb c mark is) in
    let f : false ≡ true = sym e ∙ differs in
    cc

-- two texts that are cut at the first mark
pub cut : (mark : ℕ) (a b x y : List ℕ) → lacks mark a ≡ true → lacks mark b ≡ true
    → a ++ mark ∷ x ≡ b ++ mark ∷ y → (a ≡ b) × (x ≡ y)
cut mark [] [] x y la lb e = let h : x ≡ y = cc in (refl, h)
cut mark [] (c ∷ b) x y la lb e =
    let h : c ≡ mark = cc in
    absurd (not_mark c mark h (and_parts (not (c == mark)) (lacks mark b) lb).0)
cut mark (c ∷ a) [] x y la lb e =
    let h : c ≡ mark = cc in
    absurd (not_mark c mark h (and_parts (not (c == mark)) (lacks mark a) la).0)
cut mark (c ∷ a) (d ∷ b) x y la lb e =
    let first : c ≡ d = cc in
    let rest : a ++ mark ∷ x ≡ b ++ mark ∷ y = cc in
    let r = cut mark a b x y (and_parts (not (c == mark)) (lacks mark a) la).1
    (and_parts (not (d == mark)) (lacks mark b) lb).1 rest in
    let same : a ≡ b = r.0 in
    let whole : c ∷ a ≡ d ∷ b = cc in
    (whole, r.1)

-- two lines and what follows them
pub line_cut : (a b x y : List ℕ) → lacks 10 a ≡ true → lacks 10 b ≡ true
    → line a ++ x ≡ line b ++ y → (a ≡ b) × (x ≡ y)
line_cut a b x y la lb e =
    cut 10 a b x y la lb (sym (append_assoc a (10 ∷ []) x) ∙ e ∙ append_assoc b (10 ∷ []) y)

-- the text is empty or begins with a space
abbrev pub breaks : List ℕ → Bool
breaks [] = true
breaks (c ∷ text) = c == 32

-- two words and what follows them
pub word_cut : (a b x y : List ℕ) → lacks 32 a ≡ true → lacks 32 b ≡ true → breaks x ≡ true
    → breaks y ≡ true → a ++ x ≡ b ++ y → (a ≡ b) × (x ≡ y)
word_cut [] [] x y la lb bx by e = (refl, e)
word_cut [] (c ∷ b) [] y la lb bx by e = cc
word_cut [] (c ∷ b) (d ∷ x) y la lb bx by e =
    let h : c ≡ d = cc in
    absurd (not_mark c 32 (h ∙ eqb-true d 32 bx) (and_parts (not (c == 32)) (lacks 32 b) lb).0)
word_cut (c ∷ a) [] x [] la lb bx by e = cc
word_cut (c ∷ a) [] x (d ∷ y) la lb bx by e =
    let h : c ≡ d = cc in
    absurd (not_mark c 32 (h ∙ eqb-true d 32 by) (and_parts (not (c == 32)) (lacks 32 a) la).0)
word_cut (c ∷ a) (d ∷ b) x y la lb bx by e =
    let first : c ≡ d = cc in
    let rest : a ++ x ≡ b ++ y = cc in
    let r = word_cut a b x y (and_parts (not (c == 32)) (lacks 32 a) la).1
    (and_parts (not (d == 32)) (lacks 32 b) lb).1 bx by rest in
    let same : a ≡ b = r.0 in
    let whole : c ∷ a ≡ d ∷ b = cc in
    (whole, r.1)

-- ---- numbers
-- a byte that is no digit isn't in the text of a number
pub decimal_lacks : (mark : ℕ) → mark < 48 → (n : ℕ) → n < 2 ^ 64 → lacks mark (decimal n) ≡ true
decimal_lacks mark low n few =
    decimal_by_steps (λ (n : ℕ) (ds : List ℕ). lacks mark ds ≡ true) one more n few
  where
    digit : (d : ℕ) → lacks mark ((48 + d) ∷ []) ≡ true
    digit d = and_from (not (48 + d == mark)) true
        (not_from_false (48 + d == mark)
        (ne_eqb (48 + d) mark (λ (e : 48 + d ≡ mark). omega arith))) refl

    one : (n : ℕ) → n < 10 → lacks mark ((48 + n) ∷ []) ≡ true
    one n h = digit n

    more : (n : ℕ) (ds : List ℕ) → 10 ≤ n → lacks mark ds ≡ true
        → lacks mark (ds ++ ((48 + n % 10) ∷ [])) ≡ true
    more n ds h before = list_all-append (λ (c : ℕ). not (c == mark)) ds ((48 + n % 10) ∷ [])
        ∙ and_from (lacks mark ds) (lacks mark ((48 + n % 10) ∷ [])) before (digit (n % 10))

-- the number has 64 bits
abbrev pub fits_word : ℕ → Bool
fits_word n = nat_lt n (2 ^ 64)

pub numbers_break : (ns : List ℕ) → breaks (numbers ns) ≡ true
numbers_break [] = refl
numbers_break (n ∷ ns) = refl

pub numbers_lack : (mark : ℕ) → mark < 32 → (ns : List ℕ) → list_all fits_word ns ≡ true
    → lacks mark (numbers ns) ≡ true
numbers_lack mark low [] fit = refl
numbers_lack mark low (n ∷ ns) fit =
    let parts = and_parts (fits_word n) (list_all fits_word ns) fit in
    let blank : not (32 == mark) ≡ true =
    not_from_false (32 == mark) (ne_eqb 32 mark (λ (e : 32 ≡ mark). omega arith)) in
    let digits : lacks mark (decimal n) ≡ true =
    decimal_lacks mark (omega arith) n (ltb-true n (2 ^ 64) parts.0) in
    and_from (not (32 == mark)) (lacks mark (decimal n ++ numbers ns)) blank
    (list_all-append (λ (c : ℕ). not (c == mark)) (decimal n) (numbers ns)
    ∙ and_from (lacks mark (decimal n)) (lacks mark (numbers ns)) digits
    (numbers_lack mark low ns parts.1))

-- the same text is of the same numbers
pub same_numbers : (ms ns : List ℕ) → list_all fits_word ms ≡ true → list_all fits_word ns ≡ true
    → numbers ms ≡ numbers ns → ms ≡ ns
same_numbers [] [] fm fn e = refl
same_numbers [] (n ∷ ns) fm fn e = cc
same_numbers (m ∷ ms) [] fm fn e = cc
same_numbers (m ∷ ms) (n ∷ ns) fm fn e =
    let pm = and_parts (fits_word m) (list_all fits_word ms) fm in
    let pn = and_parts (fits_word n) (list_all fits_word ns) fn in
    let few_m = ltb-true m (2 ^ 64) pm.0 in
    let few_n = ltb-true n (2 ^ 64) pn.0 in
    let rest : decimal m ++ numbers ms ≡ decimal n ++ numbers ns = cc in
    let r = word_cut (decimal m) (decimal n) (numbers ms) (numbers ns)
    (decimal_lacks 32 (lit_low) m few_m) (decimal_lacks 32 (lit_low) n few_n) (numbers_break ms)
    (numbers_break ns) rest in
    let first : m ≡ n = decimal_injective m n few_m few_n r.0 in
    let others : ms ≡ ns = same_numbers ms ns pm.1 pn.1 r.1 in
    cc
  where
    lit_low : 32 < 48
    lit_low = omega arith
