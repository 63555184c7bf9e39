-- All lists of codes that fit a table of sizes.
use Rattle.std.specs.Prelude.{◌≡◌, ℕ, Bool, true, List, [], ◌∷◌, map, flat_map, length, slice_get, Some, IsTrue}
use Rattle.std.specs.List.{list_all}
use Rattle.polis_base.specs.Lists.{upto}
use Rattle.domains.specs.Tables.{fits, product, rank}

-- a code, and each of the lists after it
abbrev pub each_after : List (List ℕ) → ℕ → List (List ℕ)
each_after lists code = map (λ codes. code ∷ codes) lists

-- all lists of codes that fit the sizes, in order: the last variable changes fastest
abbrev pub all_codes : List ℕ → List (List ℕ)
all_codes [] = [] ∷ []
all_codes (size ∷ sizes) = flat_map (each_after (all_codes sizes)) (upto size)

-- as many as the product of the sizes
abbrev pub CountsAll : Type 0
CountsAll = (sizes : List ℕ) → length (all_codes sizes) ≡ product sizes

-- a list that fits stands at its rank
abbrev pub StandsAtRank : Type 0
StandsAtRank = (sizes codes : List ℕ) → IsTrue (fits sizes codes)
    → slice_get (all_codes sizes) (rank sizes codes) ≡ Some codes

-- what stands there fits, and stands nowhere else
abbrev pub StandsOnce : Type 0
StandsOnce = (sizes codes : List ℕ) (i : ℕ) → slice_get (all_codes sizes) i ≡ Some codes
    → IsTrue (fits sizes codes) × (rank sizes codes ≡ i)

-- each of them fits
abbrev pub ListsFit : Type 0
ListsFit = (sizes : List ℕ) → list_all (fits sizes) (all_codes sizes) ≡ true

-- what holds of each of them holds of all lists that fit
abbrev pub ListsAll : Type 0
ListsAll = (sizes : List ℕ) (p : List ℕ → Bool) → list_all p (all_codes sizes) ≡ true
    → (codes : List ℕ) → fits sizes codes ≡ true → p codes ≡ true
