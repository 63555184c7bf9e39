-- The first of equal outcomes.
use Rattle.std.specs.Prelude.{◌≡◌, ℕ, ◌==◌, Bool, List, [], length, get_or, slice_get, slice_index, Some, ◌⊎◌}
use Rattle.polis_base.specs.Index.{Keyed, found}

-- under the number of each outcome stands that of an equal one, the same for all that are equal
pub record AreFirsts (outcomes : List (List ℕ)) (firsts : List ℕ) : Type 0 where
  pub long : length firsts ≡ length outcomes
  pub equal : (k f : ℕ) → slice_get firsts k ≡ Some f → get_or outcomes f [] ≡ get_or outcomes k []
  pub one : (j k f g : ℕ) → slice_get firsts j ≡ Some f → slice_get firsts k ≡ Some g
      → get_or outcomes j [] ≡ get_or outcomes k [] → f ≡ g

-- what is found under codes is this number, and what was found before is
pub record IsEntered (codes : List ℕ) (number first : ℕ) (old new : Keyed) : Type 0 where
  pub here : found new codes ≡ Some first
  pub kept : (q : List ℕ) (k : ℕ) → found old q ≡ Some k → found new q ≡ Some k
  pub only : (q : List ℕ) (k : ℕ) → found new q ≡ Some k
      → (found old q ≡ Some k) ⊎ ((codes ≡ q) × (number ≡ k))

-- the outcome is that of a firing
abbrev pub is_go : List ℕ → Bool
is_go codes = slice_index codes 0 == 1
