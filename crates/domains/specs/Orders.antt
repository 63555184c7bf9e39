-- Orders: lists that have each number below their length once.
use Rattle.std.specs.Prelude.{◌≡◌, ◌≢◌, ℕ, ◌+◌, ◌<◌, ◌==◌, cond, List, [], ◌∷◌, length, slice_index}

-- the list has each of the numbers below its length, and none twice
pub record IsPermutation (list : List ℕ) : Type 0 where
  pub below : (i : ℕ) → i < length list → slice_index list i < length list
  pub distinct : (i j : ℕ) → i < j → j < length list → slice_index list i ≢ slice_index list j

-- the place at which a number stands first, or the length
abbrev pub place : List ℕ → ℕ → ℕ
place [] v = 0
place (x ∷ xs) v = cond (x == v) 0 (place xs v + 1)

-- each number below the length stands somewhere
abbrev pub HavePlaces : Type 0
HavePlaces = (list : List ℕ) (v : ℕ) → IsPermutation list → v < length list
    → (place list v < length list) × (slice_index list (place list v) ≡ v)

-- and nowhere else
abbrev pub OnePlace : Type 0
OnePlace = (list : List ℕ) (i : ℕ) → IsPermutation list → i < length list
    → place list (slice_index list i) ≡ i
