-- Machines whose tables say the same, and the least snapshot on which they don't.
use Rattle.std.specs.Prelude.{◌≡◌, ◌≢◌, ◌↔◌, ℕ, ◌<◌, slice_get, Option, Some, None}
use Rattle.domains.specs.Least.{IsLeast}
use Rattle.transition_table.specs.declared.machine.Machine.{Machine}
use Rattle.transition_table.specs.declared.network.Network.{Network}
use Rattle.transition_table.specs.declared.snapshot.Outcome.{Outcome}
use Rattle.transition_table.specs.declared.snapshot.Snapshot.{Snapshot}
use Rattle.transition_table.specs.Transitions.{IsSnapshot, Transition, reading}
use Rattle.machine_equiv.specs.declared.machines.Compared.{Compared}
use Rattle.machine_equiv.specs.declared.machines.Compared.TheVariants.{Same, Shape, Differ}
use Rattle.machine_equiv.specs.declared.nets.Differing.{Differing}
use Rattle.machine_equiv.specs.Shapes.{SameForm}

-- on each snapshot the outcomes of the one machine's transition are those of the other's
abbrev pub SameTable : Machine → Machine → Type 0
SameTable a b = (s : Snapshot) (o : Outcome) → IsSnapshot a s → Transition a s o ↔ Transition b s o

-- the two transitions give the snapshot different outcomes
pub record DifferOn (a b : Machine) (s : Snapshot) : Type 0 where
  pub snapshot : IsSnapshot a s
  pub first : Outcome
  pub second : Outcome
  pub gives_first : Transition a s first
  pub gives_second : Transition b s second
  pub differ : first ≢ second

-- s is the least snapshot on which the transitions differ
abbrev pub IsLeastDifference : Machine → Machine → Snapshot → Type 0
IsLeastDifference a b s = IsLeast a.vars (λ codes. DifferOn a b (reading codes)) s.codes

-- what a comparison of two machines answers
abbrev pub IsComparison : Machine → Machine → Compared → Type 0
IsComparison a b Same = SameForm a b × SameTable a b
IsComparison a b Shape = ¬ SameForm a b
IsComparison a b (Differ s) = SameForm a b × IsLeastDifference a b s

-- the machines of this number have the same table
abbrev pub SameTableAt : Network → Network → ℕ → Type 0
SameTableAt a b k = (x y : Machine) → slice_get a.machines k ≡ Some x
    → slice_get b.machines k ≡ Some y → SameTable x y

-- the machines of each number have the same table
abbrev pub SameTables : Network → Network → Type 0
SameTables a b = (k : ℕ) → SameTableAt a b k

-- the machine is the first whose tables differ, and the snapshot the least on which they do
pub record IsFirstDiffering (a b : Network) (found : Differing) : Type 0 where
  pub before : (k : ℕ) → k < found.machine → SameTableAt a b k
  pub one : Machine
  pub other : Machine
  pub one_is : slice_get a.machines found.machine ≡ Some one
  pub other_is : slice_get b.machines found.machine ≡ Some other
  pub least : IsLeastDifference one other found.snapshot

-- what a comparison of two networks of one shape answers
abbrev pub IsNetComparison : Network → Network → Option Differing → Type 0
IsNetComparison a b None = SameTables a b
IsNetComparison a b (Some found) = IsFirstDiffering a b found
