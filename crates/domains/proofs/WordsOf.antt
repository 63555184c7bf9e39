-- Words of names and of numbers.
use Rattle.std.proofs.Common.{◌≡◌, ◌<◌, ◌≤◌, ◌^◌, ℕ, zero, suc, ◌+◌, ◌-◌, true, ◌&&◌, not, nat_le, List, [], ◌∷◌, ◌++◌, map, length, take, get_or, slice_get, Some, unwrap_or, refl, sym, ap, ◌∙◌, subst, arith}
use Rattle.std.specs.Prelude.{decimal}
use Rattle.std.specs.List.{list_all}
use Rattle.std.specs.Int.{IsInRange}
use Rattle.std.proofs.lemmas.Bool.{and_parts}
use Rattle.std.proofs.lemmas.Bool.Decides.{nat_tests}
use Rattle.std.proofs.lemmas.Fmt.{decimal_injective, digits_decimal}
use Rattle.std.proofs.lemmas.List.{length-map, map-append, take_more, take_all, get_or-map}
use Rattle.std.proofs.lemmas.Option.{unwrap_or-slice_get, get_or_from_slice_get}
use Rattle.std.proofs.lemmas.Str.Parse.{IsNumeralModel, numerals_by_value, tells_by_index}
use Rattle.std.specs.Str.Parse.{digits_value}
use Rattle.polis_base.specs.Lists.{upto}
use Rattle.polis_base.specs.Names.{is_name, is_keyword, begins_name, continues_name}
use Rattle.domains.specs.Domains.{size_of, word_of}
use Rattle.domains.specs.declared.domain.Domain.{Domain}
use Rattle.domains.specs.declared.domain.Domain.TheVariants.{Names, Range}
use Rattle.domains.specs.declared.domain.Span.{Span}
use Rattle.domains.specs.Domains.{words_of}
use Rattle.polis_base.proofs.UptoPlaces.{length_upto}

-- ---- names

named_up : (names : List (List ℕ)) (n : ℕ) → n ≤ length names
    → map (λ v. unwrap_or (slice_get names v) []) (upto n) ≡ take n names
named_up names zero low = refl
named_up names (suc n) low =
    map-append (λ v. unwrap_or (slice_get names v) []) (upto n) (n ∷ [])
    ∙ ap (λ (xs : List (List ℕ)). xs ++ unwrap_or (slice_get names n) [] ∷ [])
    (named_up names n (omega arith))
    ∙ ap (λ (x : List ℕ). take n names ++ x ∷ []) (unwrap_or-slice_get names n [])
    ∙ sym (take_more names n [] (omega arith))
    ∙ (let e : n + 1 ≡ suc n = omega arith in ap (λ k. take k names) e)

-- the words of names are the names
pub names_are : (names : List (List ℕ)) → words_of (Names names) ≡ names
names_are names =
    named_up names (length names) (omega arith) ∙ take_all (length names) names (omega arith)

-- ---- numbers

-- the first of the numbers below another is 0
first_upto : (n : ℕ) → 0 < n → get_or (upto n) 0 0 ≡ 0
first_upto zero some = absurd (omega arith)
first_upto (suc zero) some = refl
first_upto (suc (suc n)) some = in_front (upto (suc n)) (suc n) (let long = length_upto (suc n) in
    omega arith) (first_upto (suc n) (omega arith))
  where
    in_front : (xs : List ℕ) (x : ℕ) → 0 < length xs → get_or xs 0 0 ≡ 0
        → get_or (xs ++ x ∷ []) 0 0 ≡ 0
    in_front [] x some is = absurd (omega arith)
    in_front (y ∷ xs) x some is = is

pub long_words : (d : Domain) → length (words_of d) ≡ size_of d
long_words d = length-map (upto (size_of d)) (word_of d) ∙ length_upto (size_of d)

-- the first word of a range is its first number
first_word : (span : Span) → get_or (words_of (Range span)) 0 [] ≡ decimal span.first
first_word span =
    let long = length_upto (span.last - span.first + 1) in
    get_or-map (λ v. decimal (span.first + v)) (upto (span.last - span.first + 1)) 0 0 []
    (omega arith)
    ∙ (let e : span.first + get_or (upto (span.last - span.first + 1)) 0 0 ≡ span.first =
    let f = first_upto (span.last - span.first + 1) (omega arith) in omega arith in
    ap (λ n. decimal n) e)

-- ranges whose numbers have the same words have the same ends
pub same_ends : (a b : Span) → a.first < 2 ^ 64 → b.first < 2 ^ 64
    → words_of (Range a) ≡ words_of (Range b) → (a.first ≡ b.first) × (a.last ≡ b.last)
same_ends a b a_low b_low same =
    let a_ordered = a.ordered in
    let b_ordered = b.ordered in
    let firsts : a.first ≡ b.first =
    decimal_injective a.first b.first a_low b_low
    (sym (first_word a) ∙ ap (λ (ws : List (List ℕ)). get_or ws 0 []) same ∙ first_word b) in
    let sizes : a.last - a.first + 1 ≡ b.last - b.first + 1 =
    sym (long_words (Range a)) ∙ ap (λ (ws : List (List ℕ)). length ws) same
    ∙ long_words (Range b) in
    (firsts, omega arith)

-- ranges with the same ends have the same words
pub same_span_words : (a b : Span) → a.first ≡ b.first → a.last ≡ b.last
    → words_of (Range a) ≡ words_of (Range b)
same_span_words a b first last =
    λ i. map (λ v. decimal (first i + v)) (upto (last i - first i + 1))

-- ---- names are no numbers

own : IsNumeralModel (λ ds. (i : ℕ) → i < length ds → IsInRange 48 57 (get_or ds i 0))
    (digits_value 10)
own = numerals_by_value (λ ds. (i : ℕ) → i < length ds → IsInRange 48 57 (get_or ds i 0))
    tells_by_index

no_digit : (c : ℕ) → 48 ≤ c → c ≤ 57 → begins_name c ≡ true → ⊥
no_digit c low high h = grind (arith, nat_tests)

first_letter : (xs : List ℕ) → is_name xs ≡ true
    → (0 < length xs) × (begins_name (get_or xs 0 0) ≡ true)
first_letter [] h = cc
first_letter (c ∷ cs) h = (
  omega arith,
  (and_parts (begins_name c) (list_all continues_name cs)
      (and_parts (nat_le (length (c ∷ cs)) 24) (begins_name c && list_all continues_name cs)
      (and_parts (nat_le (length (c ∷ cs)) 24 && (begins_name c && list_all continues_name cs))
      (not (is_keyword (c ∷ cs))) h).0).1).0,
)

no_number : (n : ℕ) → n < 2 ^ 64 → is_name (decimal n) ≡ true → ⊥
no_number n low h =
    let first = first_letter (decimal n) h in
    let digit = digits_decimal own n low 0 first.0 in
    no_digit (get_or (decimal n) 0 0) digit.0 digit.1 first.1

-- names aren't the words of a range
pub apart : (names : List (List ℕ)) (span : Span) (name : List ℕ) → span.first < 2 ^ 64
    → slice_get names 0 ≡ Some name → is_name name ≡ true → names ≡ words_of (Range span) → ⊥
apart names span name low there is same =
    no_number span.first low
    (subst (λ (word : List ℕ). is_name word ≡ true)
    (sym (get_or_from_slice_get names 0 name [] there)
    ∙ ap (λ (ws : List (List ℕ)). get_or ws 0 []) same ∙ first_word span) is)
