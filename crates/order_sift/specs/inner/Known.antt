-- What is known of sets of items.
use Rattle.std.specs.Prelude.{◌≡◌, ℕ, ◌≤◌, ◌==◌, Bool, List, Some, slice_get}
use Rattle.polis_base.specs.declared.limits.TheConstants.{SIFTED_SNAPSHOTS_MAX}
use Rattle.std.specs.Int.{bit_at}
use Rattle.transition_table.specs.declared.machine.Machine.{Machine}
use Rattle.transition_table.specs.Computed.{char}
use Rattle.transition_table.specs.Orders.{sizes_of}
use Rattle.decision_diagram.specs.Sets.{set_level}
use Rattle.order_sift.specs.declared.sets.Known.{Known}
use Rattle.order_sift.specs.declared.sets.KnownLevel.{KnownLevel}
use Rattle.order_sift.specs.declared.sets.KnownNumbers.{KnownNumbers}
use Rattle.order_sift.specs.inner.Classes.{AreClasses}

-- an item's bit is set
abbrev pub in_set : ℕ → ℕ → Bool
in_set set item = bit_at set item == 1

-- numbers where the items of a set are fixed
abbrev pub AreNumbers : Machine → List KnownNumbers → Type 0
AreNumbers m numbers = (k : ℕ) (one : KnownNumbers) → slice_get numbers k ≡ Some one
    → AreClasses m (in_set one.set) one.numbers

-- the level of an item after those of a set
pub record IsLevel (m : Machine) (one : KnownLevel) : Type 0 where
  pub is : one.level ≡ set_level (char m) (sizes_of m) (in_set one.set) one.item
  pub few : one.level ≤ SIFTED_SNAPSHOTS_MAX

abbrev pub AreLevels : Machine → List KnownLevel → Type 0
AreLevels m levels = (k : ℕ) (one : KnownLevel) → slice_get levels k ≡ Some one → IsLevel m one

pub record AreKnown (m : Machine) (known : Known) : Type 0 where
  pub numbers : AreNumbers m known.numbers
  pub levels : AreLevels m known.levels
