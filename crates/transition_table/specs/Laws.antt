-- Laws of the definitions.
use Rattle.std.specs.Prelude.{◌≡◌, ◌↔◌, ℕ, ◌<◌, ◌≤◌, true, false, List, ◌++◌, length, drop, slice_get, slice_index, Some, IsTrue}
use Rattle.domains.specs.Tables.{fits}
use Rattle.transition_table.specs.declared.machine.Machine.{Machine}
use Rattle.transition_table.specs.declared.network.Network.{Network}
use Rattle.transition_table.specs.declared.row.Act.{Act}
use Rattle.transition_table.specs.declared.row.Row.{Row}
use Rattle.transition_table.specs.declared.row.Source.TheVariants.{Input}
use Rattle.transition_table.specs.declared.snapshot.Snapshot.{Snapshot}
use Rattle.transition_table.specs.declared.snapshot.Outcome.{Outcome}
use Rattle.transition_table.specs.Computed.{outcome_by, result_codes, result_code, char, supports}
use Rattle.transition_table.specs.Orders.{Char, Support, sizes_of}
use Rattle.transition_table.specs.Transitions.{reading, IsSnapshot, Transition, Conflict, IsDeterministic, HasWidths, IsOutcome, blank, is_enabled}

-- a machine with one row at most is deterministic
abbrev pub OneRow : Type 0
OneRow = (m : Machine) → length m.rows ≤ 1 → IsDeterministic m

-- a machine is deterministic exactly where no two of its rows conflict
abbrev pub NoConflicts : Type 0
NoConflicts = (m : Machine) → IsDeterministic m ↔ ((a b : ℕ) (s : Snapshot) → Conflict m a b s → ⊥)

-- each snapshot has an outcome
abbrev pub SomeOutcome : Type 0
SomeOutcome = (m : Machine) (s : Snapshot) → (o : Outcome) × Transition m s o

-- an outcome has the machine's widths
abbrev pub HaveWidths : Type 0
HaveWidths = (m : Machine) (s : Snapshot) (o : Outcome) → Transition m s o → HasWidths m o

-- an outcome's codes are codes of the results after `go`
abbrev pub CodesFit : Type 0
CodesFit = (m : Machine) (s : Snapshot) (o : Outcome) → IsSnapshot m s → Transition m s o
    → IsTrue (fits (drop 1 m.results) (o.next ++ o.outs))

-- an outcome that doesn't fire is blank
abbrev pub IdleIsBlank : Type 0
IdleIsBlank = (m : Machine) (s : Snapshot) (o : Outcome) → Transition m s o → o.fires ≡ false
    → o ≡ blank m

-- a machine that is deterministic has one outcome at most on a snapshot
abbrev pub OneOutcome : Type 0
OneOutcome = (m : Machine) (s : Snapshot) (o p : Outcome) → IsDeterministic m → IsSnapshot m s
    → Transition m s o → Transition m s p → o ≡ p

-- the outcome of a transition has the machine's widths and codes in range, and is blank where it
-- doesn't fire
abbrev pub TransitionFits : Type 0
TransitionFits = (m : Machine) (s : Snapshot) (o : Outcome) → IsSnapshot m s → Transition m s o
    → IsOutcome m o

-- where a row is enabled, each input from which it takes a code is present
abbrev pub InputsArePresent : Type 0
InputsArePresent =
    (m : Machine) (r k v : ℕ) (row : Row) (act : Act) (s : Snapshot)
    → slice_get m.rows r ≡ Some row
    → slice_get row.acts k ≡ Some act
    → act.source ≡ Input v
    → IsTrue (is_enabled m r s)
    → 1 ≤ slice_index s.codes v

-- ---- what is computed
-- the outcome that is computed is one of the transition's
abbrev pub OutcomeByRows : Type 0
OutcomeByRows = (m : Machine) (s : List ℕ) → Transition m (reading s) (outcome_by m m.rows s)

-- and, where the machine is deterministic, the only one
abbrev pub OnlyByRows : Type 0
OnlyByRows = (m : Machine) (s : List ℕ) (o : Outcome) → IsDeterministic m → fits m.vars s ≡ true
    → Transition m (reading s) o → o ≡ outcome_by m m.rows s

-- the codes of the results on a snapshot are codes of them
abbrev pub ResultsFit : Type 0
ResultsFit = (m : Machine) (s : List ℕ) → fits m.vars s ≡ true
    → fits m.results (result_codes m s) ≡ true

-- the test says what the relation says
abbrev pub CharByTest : Type 0
CharByTest = (m : Machine) (list : List ℕ) → IsDeterministic m → fits (sizes_of m) list ≡ true
    → (char m list ≡ true) ↔ Char m list

abbrev pub SupportByTest : Type 0
SupportByTest = (m : Machine) (y v : ℕ) → IsDeterministic m → v < length m.vars
    → (supports m y v ≡ true) ↔ Support m y v

-- a result has one code on two snapshots that agree on what it depends on
abbrev pub SameOnSupport : Type 0
SameOnSupport =
    (m : Machine) (y : ℕ) (s t : List ℕ)
    → fits m.vars s ≡ true
    → fits m.vars t ≡ true
    → ((v : ℕ) → v < length m.vars → supports m y v ≡ true → slice_index s v ≡ slice_index t v)
    → result_code m y s ≡ result_code m y t

-- ---- values with the same data are the same
abbrev pub SameRow : Type 0
SameRow = (a b : Row) → a.conds ≡ b.conds → a.acts ≡ b.acts → a ≡ b

pub record AreSameMachines (a b : Machine) : Type 0 where
  pub name : a.name ≡ b.name
  pub priority : a.priority ≡ b.priority
  pub inputs : a.inputs ≡ b.inputs
  pub outputs : a.outputs ≡ b.outputs
  pub states : a.states ≡ b.states
  pub vars : a.vars ≡ b.vars
  pub results : a.results ≡ b.results
  pub rows : a.rows ≡ b.rows

abbrev pub SameMachine : Type 0
SameMachine = (a b : Machine) → AreSameMachines a b → a ≡ b

pub record AreSameNetworks (a b : Network) : Type 0 where
  pub name : a.name ≡ b.name
  pub domains : a.domains ≡ b.domains
  pub events : a.events ≡ b.events
  pub machines : a.machines ≡ b.machines

abbrev pub SameNetwork : Type 0
SameNetwork = (a b : Network) → AreSameNetworks a b → a ≡ b

-- What follows from the definitions.
pub record TransitionLaws : Type 0 where
  pub one_row : OneRow
  pub no_conflicts : NoConflicts
  pub some_outcome : SomeOutcome
  pub have_widths : HaveWidths
  pub codes_fit : CodesFit
  pub idle_is_blank : IdleIsBlank
  pub one_outcome : OneOutcome
  pub transition_fits : TransitionFits
  pub inputs_are_present : InputsArePresent
