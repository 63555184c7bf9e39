-- The children of a test, in order of their numbers.
use Rattle.std.specs.Prelude.{◌≡◌, ℕ, ◌<◌, ◌≤◌, ◌⊎◌, true, false, List}
use Rattle.transition_table.specs.NetworkFacts.{has}

-- the first child from a number on and below a count, or the count where there is none
pub record IsNext (kids : List ℕ) (from count next : ℕ) : Type 0 where
  pub rises : from ≤ next
  pub within : next ≤ count
  pub is : next < count → has kids next ≡ true
  pub first : (k : ℕ) → from ≤ k → k < next → has kids k ≡ false

-- the lesser of a child and the least so far, where the child isn't below the number
pub record IsNearer (kid from old new : ℕ) : Type 0 where
  pub low : new ≤ old
  pub reach : from ≤ kid → new ≤ kid
  pub is : (new ≡ old) ⊎ ((new ≡ kid) × (from ≤ kid))
