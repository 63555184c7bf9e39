-- Names with a number of one or two digits.
use Rattle.std.proofs.Common.{◌≡◌, ℕ, zero, suc, ◌+◌, ◌-◌, ◌*◌, ◌/◌, ◌%◌, ◌<◌, ◌≤◌, ◌==◌, Bool, true, cond, List, ◌∷◌, refl, arith, subst, sym, ap, ◌∙◌, nat_lt, inl, inr, []}
use Rattle.std.specs.Prelude.{decimal}
use Rattle.std.specs.List.{list_all}
use Rattle.std.proofs.lemmas.Bool.{and_parts, cases_eq, lt-ltb, le-ltb, eqb-true}
use Rattle.std.proofs.lemmas.List.Folds.{list_all-append}
use Rattle.polis_base.specs.Digits.{is_plain, number_of}
use Rattle.polis_base.specs.Lists.{upto}
use Rattle.polis_base.specs.Names.{is_name}
use Rattle.polis_base.proofs.Digits.{text_of_number}

-- what holds of each number of a table holds of one below its length
pub each_below : (p : ℕ → Bool) (n i : ℕ) → list_all p (upto n) ≡ true → i < n → p i ≡ true
each_below p zero i h below = absurd (omega arith)
each_below p (suc n) i h below =
    let parts = and_parts (list_all p (upto n)) (list_all p (n ∷ []))
    (sym (list_all-append p (upto n) (n ∷ [])) ∙ h) in
    elim (cases_eq i n) [
      | inl same ↦ ap p same ∙ (and_parts (p n) true parts.1).0
      | inr other ↦ each_below p n i parts.0 (omega arith)
    ]

abbrev shifted : ℕ → ℕ → ℕ
shifted n c = n * 10 + (c - 48)

-- the digits of a number below 100
abbrev digits : ℕ → List ℕ
digits i = cond (nat_lt i 10) ((48 + i % 10) ∷ []) ((48 + i / 10) ∷ (48 + i % 10) ∷ [])

abbrev are_plain : ℕ → Bool
are_plain i = is_plain (digits i)

abbrev have_number : ℕ → Bool
have_number i = number_of (digits i) == i

decimal_is : (i : ℕ) → i < 48 → decimal i ≡ digits i
decimal_is i below =
    let number : number_of (digits i) ≡ i =
    eqb-true (number_of (digits i)) i (each_below have_number 48 i refl below) in
    ap decimal (sym number)
    ∙ sym (text_of_number (digits i) (each_below are_plain 48 i refl below) (omega arith))

pub one_digit : (i : ℕ) → i < 10 → decimal i ≡ (48 + i % 10) ∷ []
one_digit i below =
    decimal_is i (omega arith)
    ∙ ap (λ b. cond b ((48 + i % 10) ∷ []) ((48 + i / 10) ∷ (48 + i % 10) ∷ [])) (lt-ltb i 10 below)

pub two_digits : (i : ℕ) → 10 ≤ i → i < 48
    → decimal i ≡ (48 + i / 10) ∷ (48 + i % 10) ∷ []
two_digits i above below =
    decimal_is i below
    ∙ ap (λ b. cond b ((48 + i % 10) ∷ []) ((48 + i / 10) ∷ (48 + i % 10) ∷ [])) (le-ltb i 10 above)

-- each of the letters with a number after it is a name
abbrev is_numbered : ℕ → ℕ → Bool
is_numbered letter i = is_name (letter ∷ digits i)

numbered_name : (letter i : ℕ) → i < 48 → list_all (is_numbered letter) (upto 48) ≡ true
    → is_name (letter ∷ decimal i) ≡ true
numbered_name letter i below all =
    subst (λ (xs : List ℕ). is_name (letter ∷ xs) ≡ true) (sym (decimal_is i below))
    (each_below (is_numbered letter) 48 i all below)

pub tick_name : (i : ℕ) → i < 48 → is_name (116 ∷ decimal i) ≡ true
tick_name i below = numbered_name 116 i below refl

pub valued_name : (i : ℕ) → i < 48 → is_name (101 ∷ decimal i) ≡ true
valued_name i below = numbered_name 101 i below refl

pub output_name : (i : ℕ) → i < 48 → is_name (111 ∷ decimal i) ≡ true
output_name i below = numbered_name 111 i below refl

pub machine_name : (i : ℕ) → i < 48 → is_name (109 ∷ decimal i) ≡ true
machine_name i below = numbered_name 109 i below refl

-- a text of digits is that of one number alone
pub decimal_apart : (i k : ℕ) → i < 48 → k < 48 → decimal i ≡ decimal k → i ≡ k
decimal_apart i k small_i small_k same =
    let number_i : number_of (digits i) ≡ i =
    eqb-true (number_of (digits i)) i (each_below have_number 48 i refl small_i) in
    let number_k : number_of (digits k) ≡ k =
    eqb-true (number_of (digits k)) k (each_below have_number 48 k refl small_k) in
    sym number_i
    ∙ ap number_of (sym (decimal_is i small_i) ∙ same ∙ decimal_is k small_k)
    ∙ number_k
