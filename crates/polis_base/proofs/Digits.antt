-- The number that digits write, and its text.
use Rattle.std.proofs.Common.{◌≡◌, ℕ, ◌+◌, ◌-◌, ◌*◌, ◌^◌, ◌<◌, ◌≤◌, true, not, ◌||◌, ◌==◌, List, [], ◌∷◌, length, take, drop, get_or, fold, sym, ◌∙◌, ap, arith, rules, zero, suc}
use Rattle.std.specs.List.{list_all}
use Rattle.std.specs.Fmt.{decimal}
use Rattle.std.proofs.lemmas.Bool.{false≢true}
use Rattle.std.proofs.lemmas.Bool.Decides.{nat_tests}
use Rattle.std.proofs.lemmas.List.{take-append-drop}
use Rattle.std.proofs.lemmas.List.Sums.{fold-append, fold_more}
use Rattle.std.proofs.lemmas.Str.Parse.{IsNumeralModel, numerals_by_fold}
use Rattle.std.proofs.lemmas.Fmt.{decimal-digits_value, digits_decimal, digits_value-decimal, decimal_nonempty, first_decimal, decimal_digit}
use Rattle.polis_base.specs.Digits.{is_digit, is_plain, number_of}
use Rattle.polis_base.proofs.Bools.{and_first, and_second}

abbrev pub next : ℕ → ℕ → ℕ
next n c = n * 10 + (c - 48)

-- digits after a number make it no smaller
grows : (n : ℕ) (cs : List ℕ) → n ≤ fold next n cs
grows n [] = omega arith
grows n (c ∷ cs) = omega (arith, grows (next n c) cs)

pub prefix_least : (k : ℕ) (cs : List ℕ) → number_of (take k cs) ≤ number_of cs
prefix_least k cs =
    let whole : number_of cs ≡ fold next (number_of (take k cs)) (drop k cs) =
    ap number_of (sym (take-append-drop k cs))
    ∙ fold-append next 0 (take k cs) (drop k cs) in
    omega (arith, grows (number_of (take k cs)) (drop k cs))

-- a zero at the start stands alone
pub alone : (c : ℕ) (cs : List ℕ) → (not (c == 48) || length cs == 0) ≡ true → c ≡ 48
    → length (c ∷ cs) ≡ 1
alone c cs plain zero_first = grind (arith, nat_tests)

zero_free : (c : ℕ) (cs : List ℕ) → (c ≡ 48 → length (c ∷ cs) ≡ 1)
    → (not (c == 48) || length cs == 0) ≡ true
zero_free c cs zero_alone = grind (arith, nat_tests)

pub own : IsNumeralModel (λ cs. list_all is_digit cs ≡ true) number_of
own = numerals_by_fold _ (search rules) (fold next) (search rules)

-- plain digits are the text of their number
pub text_of_number : (cs : List ℕ) → is_plain cs ≡ true → number_of cs < 2 ^ 64
    → cs ≡ decimal (number_of cs)
text_of_number [] plain fits = absurd (false≢true plain)
text_of_number (c ∷ cs) plain fits =
    let digits : list_all is_digit (c ∷ cs) ≡ true = and_first _ _ plain in
    sym (decimal-digits_value own (c ∷ cs) digits (omega arith)
    (alone c cs (and_second _ _ plain)) fits)

pub first_zero : (n : ℕ) → n < 2 ^ 64 → get_or (decimal n) 0 0 ≡ 48 → length (decimal n) ≡ 1
first_zero zero fits first = ap length (decimal_digit 0 (omega arith))
first_zero (suc n) fits first = absurd (omega (arith, first_decimal (suc n) (omega arith) fits))

plain_from : (cs : List ℕ) → 0 < length cs → list_all is_digit cs ≡ true
    → (get_or cs 0 0 ≡ 48 → length cs ≡ 1) → is_plain cs ≡ true
plain_from [] some digits zero_alone = absurd (omega arith)
plain_from (c ∷ cs) some digits zero_alone = rw digits (zero_free c cs zero_alone)

-- the text of a number is plain digits, and they write it
pub plain_decimal : (n : ℕ) → n < 2 ^ 64 → is_plain (decimal n) ≡ true
plain_decimal n fits =
    plain_from (decimal n) (decimal_nonempty n fits) (digits_decimal own n fits) (first_zero n fits)

pub number_of_decimal : (n : ℕ) → n < 2 ^ 64 → number_of (decimal n) ≡ n
number_of_decimal n fits = digits_value-decimal own n fits

-- one digit more
pub number_more : (cs : List ℕ) (i n c : ℕ) → i < length cs → n ≡ number_of (take i cs)
    → c ≡ get_or cs i 0 → n * 10 + (c - 48) ≡ number_of (take (i + 1) cs)
number_more cs i n c within so_far here = rw (so_far, here) (sym (fold_more next 0 cs i 0 within))
