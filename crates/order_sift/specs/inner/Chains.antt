-- What an order leaves of a machine's characteristic function, from its end on.
use Rattle.std.specs.Prelude.{◌≡◌, ℕ, ◌+◌, ◌-◌, ◌*◌, ◌≤◌, List, [], length, take, drop, get_or, slice_index}
use Rattle.polis_base.specs.declared.limits.TheConstants.{SIFTED_SNAPSHOTS_MAX}
use Rattle.transition_table.specs.declared.machine.Machine.{Machine}
use Rattle.transition_table.specs.Computed.{char}
use Rattle.transition_table.specs.Orders.{Allowed, sizes_of}
use Rattle.decision_diagram.specs.Sets.{stands, sum_of_levels}
use Rattle.char_function.specs.Sizes.{Size}
use Rattle.order_sift.specs.declared.chain.Chain.{Chain}
use Rattle.order_sift.specs.inner.Classes.{AreClasses}
use Rattle.order_sift.specs.Moves.{moved}

-- the levels of an order's items from a place on
abbrev pub levels_from : Machine → List ℕ → ℕ → ℕ
levels_from m order k = sum_of_levels (char m) (sizes_of m) (take k order) (drop k order)

-- for each number of the order's last items, up to n of them: numbers where all but these are
-- fixed, and their levels
pub record AreChain (m : Machine) (order : List ℕ) (n : ℕ) (classes : List (List ℕ))
    (backs : List ℕ) : Type 0 where
  pub long : length classes ≡ n + 1
  pub long_backs : length backs ≡ n + 1
  pub numbers : (t : ℕ) → t ≤ n
      → AreClasses m (stands (take (length order - t) order)) (get_or classes t [])
  pub levels : (t : ℕ) → t ≤ n → slice_index backs t ≡ levels_from m order (length order - t)
  pub few : (t : ℕ) → t ≤ n → slice_index backs t ≤ SIFTED_SNAPSHOTS_MAX * t

-- for all of its items
abbrev pub IsChain : Machine → List ℕ → Chain → Type 0
IsChain m order chain = AreChain m order (length order) chain.classes chain.backs

-- the item at place i may stand at each of these places
abbrev pub MayStand : Machine → List ℕ → ℕ → ℕ → ℕ → Type 0
MayStand m order i first last = (j : ℕ) → first ≤ j → j ≤ last → Allowed m (moved order i j)

-- from one place to another the sizes with the item there, listed from the place `first` on
abbrev pub AreSizes : Machine → List ℕ → ℕ → ℕ → List ℕ → ℕ → ℕ → Type 0
AreSizes m order i first sizes one other = (j : ℕ) → one ≤ j → j ≤ other
    → slice_index sizes (j - first) ≡ Size m (moved order i j)
