-- What command lines ask for.
use Rattle.std.proofs.Common.{◌≡◌, ℕ, suc, ◌<◌, ◌^◌, List, [], ◌∷◌, length, get_or, slice_get, Option, Some, ap, arith, decimal}
use Rattle.std.proofs.lemmas.Fmt.{decimal_injective}
use Rattle.polis_words.specs.Demo.{DemoWords, AsksDemo}

-- two, three, four and five words
pub two_words : (words : List (List ℕ)) (a b : List ℕ) → length words ≡ 2
    → slice_get words 0 ≡ Some a → slice_get words 1 ≡ Some b → words ≡ a ∷ b ∷ []
two_words [] a b n p q = cc
two_words (w ∷ []) a b n p q = cc
two_words (w ∷ x ∷ []) a b n p q = cc
two_words (w ∷ x ∷ y ∷ more) a b n p q = let few : suc (length more) ≡ 0 = omega arith in
    absurd (omega arith)

pub three_words : (words : List (List ℕ)) (a b c : List ℕ) → length words ≡ 3
    → slice_get words 0 ≡ Some a → slice_get words 1 ≡ Some b → slice_get words 2 ≡ Some c
    → words ≡ a ∷ b ∷ c ∷ []
three_words [] a b c n p q r = cc
three_words (w ∷ []) a b c n p q r = cc
three_words (w ∷ x ∷ []) a b c n p q r = cc
three_words (w ∷ x ∷ y ∷ []) a b c n p q r = cc
three_words (w ∷ x ∷ y ∷ z ∷ more) a b c n p q r = let few : suc (length more) ≡ 0 = omega arith in
    absurd (omega arith)

pub four_words : (words : List (List ℕ)) (a b c d : List ℕ) → length words ≡ 4
    → slice_get words 0 ≡ Some a → slice_get words 1 ≡ Some b → slice_get words 2 ≡ Some c
    → slice_get words 3 ≡ Some d → words ≡ a ∷ b ∷ c ∷ d ∷ []
four_words [] a b c d n p q r s = cc
four_words (w ∷ []) a b c d n p q r s = cc
four_words (w ∷ x ∷ []) a b c d n p q r s = cc
four_words (w ∷ x ∷ y ∷ []) a b c d n p q r s = cc
four_words (w ∷ x ∷ y ∷ z ∷ []) a b c d n p q r s = cc
four_words (w ∷ x ∷ y ∷ z ∷ v ∷ more) a b c d n p q r s = let few : suc (length more) ≡ 0 =
    omega arith in absurd (omega arith)

pub five_words : (words : List (List ℕ)) (a b c d e : List ℕ) → length words ≡ 5
    → slice_get words 0 ≡ Some a → slice_get words 1 ≡ Some b → slice_get words 2 ≡ Some c
    → slice_get words 3 ≡ Some d → slice_get words 4 ≡ Some e
    → words ≡ a ∷ b ∷ c ∷ d ∷ e ∷ []
five_words [] a b c d e n p q r s t = cc
five_words (w ∷ []) a b c d e n p q r s t = cc
five_words (w ∷ x ∷ []) a b c d e n p q r s t = cc
five_words (w ∷ x ∷ y ∷ []) a b c d e n p q r s t = cc
five_words (w ∷ x ∷ y ∷ z ∷ []) a b c d e n p q r s t = cc
five_words (w ∷ x ∷ y ∷ z ∷ v ∷ []) a b c d e n p q r s t = cc
five_words (w ∷ x ∷ y ∷ z ∷ v ∷ u ∷ more) a b c d e n p q r s t = let few : suc (length more) ≡ 0 =
    omega arith in absurd (omega arith)

-- what stands at a place of equal lists of words
pub same_item : (k : ℕ) {a b : List (List ℕ)} → a ≡ b → get_or a k [] ≡ get_or b k []
same_item k e = ap (λ (w : List (List ℕ)). get_or w k []) e

-- one word stands at a place
pub same_word : (words : List (List ℕ)) (k : ℕ) (a b : List ℕ) → slice_get words k ≡ Some a
    → slice_get words k ≡ Some b → b ≡ a
same_word words k a b p q = cc

-- the number at its place is one demo's
same_text : (a b : List ℕ) (at : Option (List ℕ)) → at ≡ Some a → at ≡ Some b → a ≡ b
same_text a b at p q = cc

pub one_demo : (words : List (List ℕ)) (seed : ℕ) → seed < 2 ^ 64
    → slice_get words 1 ≡ Some (decimal seed)
    → (other : DemoWords) → AsksDemo words other → other ≡ record { seed = seed }
one_demo words seed fits at other asks =
    let there = ap (λ (w : List (List ℕ)). slice_get w 1) asks.form in
    let same = decimal_injective other.seed seed asks.seed fits
    (same_text (decimal other.seed) (decimal seed) (slice_get words 1) there at) in
    λ i. record { seed = same i }
