-- Laws of the definitions.
use Rattle.std.specs.Prelude.{◌≡◌, ◌↔◌, ℕ, List, slice_get, Option, Some}
use Rattle.transition_table.specs.declared.machine.Machine.{Machine}
use Rattle.transition_table.specs.declared.network.Network.{Network}
use Rattle.transition_table.specs.declared.row.Row.{Row}
use Rattle.transition_table.specs.declared.snapshot.Snapshot.{Snapshot}
use Rattle.transition_table.specs.Transitions.{IsDeterministic, AreDeterministic}
use Rattle.machine_equiv.specs.declared.machines.Compared.{Compared}
use Rattle.machine_equiv.specs.declared.nets.Differing.{Differing}
use Rattle.machine_equiv.specs.Comparing.{SameTable, DifferOn, SameTables, IsComparison, IsNetComparison}
use Rattle.machine_equiv.specs.Runs.{HaveSameRuns}
use Rattle.machine_equiv.specs.Shapes.{SameShape, SameForm}

-- machines of one number of networks of one shape are of one form
abbrev pub SameShapeSameForms : Type 0
SameShapeSameForms = (a b : Network) (k : ℕ) (x y : Machine) → SameShape a b
    → slice_get a.machines k ≡ Some x → slice_get b.machines k ≡ Some y → SameForm x y

-- each row of the one list stands somewhere in the other
abbrev pub StandIn : List Row → List Row → Type 0
StandIn xs ys = (k : ℕ) (row : Row) → slice_get xs k ≡ Some row
    → (j : ℕ) × (slice_get ys j ≡ Some row)

-- tables with the same rows say the same, in whatever order the rows stand and however often
abbrev pub SameRowsSameTable : Type 0
SameRowsSameTable = (a b : Machine) → SameForm a b → StandIn a.rows b.rows → StandIn b.rows a.rows
    → SameTable a b

-- two tables say the same exactly where the transitions differ on no snapshot
abbrev pub NoDifference : Type 0
NoDifference = (a b : Machine) → SameForm a b → IsDeterministic a → IsDeterministic b
    → SameTable a b ↔ ((s : Snapshot) → ¬ DifferOn a b s)

-- a comparison of two machines has one answer
abbrev pub OneComparison : Type 0
OneComparison = (a b : Machine) (x y : Compared) → IsDeterministic a → IsDeterministic b
    → IsComparison a b x → IsComparison a b y → x ≡ y

-- and so has one of two networks of one shape
abbrev pub OneNetComparison : Type 0
OneNetComparison = (a b : Network) (x y : Option Differing) → SameShape a b → AreDeterministic a
    → AreDeterministic b → IsNetComparison a b x → IsNetComparison a b y → x ≡ y

-- networks of one shape, no tables of which differ, have the same runs
abbrev pub SameTablesSameRuns : Type 0
SameTablesSameRuns = (a b : Network) → SameShape a b → SameTables a b → HaveSameRuns a b

-- what follows from the definitions
pub record ComparisonLaws : Type 0 where
  pub same_forms : SameShapeSameForms
  pub same_rows : SameRowsSameTable
  pub no_difference : NoDifference
  pub one_comparison : OneComparison
  pub one_net_comparison : OneNetComparison
  pub same_runs : SameTablesSameRuns
