-- What is known of a machine's results and of diagrams.
use Rattle.std.proofs.Common.{◌≡◌, ℕ, ◌<◌, ◌≤◌, true, List, length, slice_index}
use Rattle.domains.specs.Tables.{fits}
use Rattle.transition_table.specs.declared.machine.Machine.{Machine}
use Rattle.transition_table.specs.Computed.{result_codes}
use Rattle.transition_table.specs.Laws.{HaveWidths, OutcomeByRows, ResultsFit, CharByTest, SupportByTest, SameOnSupport}
use Rattle.decision_diagram.specs.Laws.{SomewhereTrue, ReachedLed, OneChild}

-- laws of the crates below
pub record Below : Type 0 where
  pub widths : HaveWidths
  pub by_rows : OutcomeByRows
  pub fit : ResultsFit
  pub char_test : CharByTest
  pub by_test : SupportByTest
  pub on_support : SameOnSupport
  pub somewhere : SomewhereTrue
  pub led : ReachedLed
  pub one_child : OneChild

-- what holds of each machine's results
pub record HasResults (m : Machine) : Type 0 where
  pub two : (y : ℕ) → y < length m.results → 2 ≤ slice_index m.results y
  pub fit : (s : List ℕ) → fits m.vars s ≡ true → fits m.results (result_codes m s) ≡ true
  pub below : Below
