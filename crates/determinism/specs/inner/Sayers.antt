-- Rows by what they say, as a set of rows for each 64 of them and each place.
use Rattle.std.specs.Prelude.{◌≡◌, ◌⊎◌, ◌<◌, ◌+◌, ◌*◌, ℕ, List, length, slice_get, slice_index, Some}
use Rattle.std.specs.Int.{bit_at}
use Rattle.determinism.specs.declared.marks.Marks.{Marks}

-- a row of the block says the place
abbrev pub IsSaid : List ℕ → ℕ → ℕ → ℕ → Type 0
IsSaid sayers block place i = bit_at (slice_index sayers (block * 64 + place)) i ≡ 1

-- it is only said by rows whose marks have it
pub record AreSayers (marks : List Marks) (sayers : List ℕ) : Type 0 where
  pub long : length sayers ≡ 512
  pub said : (block place i : ℕ) (of_row : Marks) → place < 64 → IsSaid sayers block place i
      → slice_get marks (block * 64 + i) ≡ Some of_row → bit_at of_row.said place ≡ 1

-- what is said besides is said by this row, which says these places
abbrev pub HasAdded : List ℕ → List ℕ → ℕ → ℕ → Type 0
HasAdded old new row said =
    (block place i : ℕ) → place < 64 → IsSaid new block place i
    → IsSaid old block place i ⊎ ((block * 64 + i ≡ row) × (bit_at said place ≡ 1))

-- a row of the block says something of what is denied
abbrev pub IsFar : List ℕ → ℕ → ℕ → ℕ → Type 0
IsFar sayers block denied i =
    (place : ℕ) × (place < 64) × IsSaid sayers block place i × (bit_at denied place ≡ 1)
