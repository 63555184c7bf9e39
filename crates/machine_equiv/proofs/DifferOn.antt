-- Where machines of one form differ, by the codes of their results.
use Rattle.std.proofs.Common.{◌≡◌, ◌≢◌, ◌↔◌, ℕ, true, List, length, sym, ap, ◌∙◌, subst}
use Rattle.domains.specs.Tables.{fits}
use Rattle.transition_table.specs.Computed.{outcome_by, result_codes}
use Rattle.transition_table.specs.Orders.{codes_of}
use Rattle.transition_table.specs.Transitions.{reading, Transition, IsDeterministic}
use Rattle.transition_table.specs.declared.decl.StateDecl.{StateDecl}
use Rattle.transition_table.specs.declared.machine.Machine.{Machine}
use Rattle.transition_table.specs.declared.snapshot.Outcome.{Outcome}
use Rattle.transition_table.proofs.Computed.{outcome_by_rows, only_by_rows}
use Rattle.transition_table.proofs.Determinism.{have_widths}
use Rattle.transition_table.proofs.SameCodes.{by_codes}
use Rattle.machine_equiv.specs.Comparing.{DifferOn}
use Rattle.machine_equiv.specs.Shapes.{SameForm}
use Rattle.polis_base.proofs.AgreeBelow.{same_long}

module _ (a b : Machine) (form : SameForm a b) (a_sure : IsDeterministic a)
    (b_sure : IsDeterministic b) where
  pub fits_other : (s : List ℕ) → fits a.vars s ≡ true → fits b.vars s ≡ true
  fits_other s fit = subst (λ (vars : List ℕ). fits vars s ≡ true) form.vars fit

  -- an outcome has one code for each state variable
  same_width : (s : List ℕ)
      → length (outcome_by a a.rows s).next ≡ length (outcome_by b b.rows s).next
  same_width s =
      (have_widths a (reading s) (outcome_by a a.rows s) (outcome_by_rows a s)).next
      ∙ same_long (λ (state : StateDecl). state.init) (λ state. state.init) a.states b.states
      form.initial_values
      ∙ sym (have_widths b (reading s) (outcome_by b b.rows s) (outcome_by_rows b s)).next

  same_outcome : (s : List ℕ) → result_codes a s ≡ result_codes b s
      → outcome_by a a.rows s ≡ outcome_by b b.rows s
  same_outcome s same =
      by_codes (outcome_by a a.rows s) (outcome_by b b.rows s) (same_width s) same

  -- with the same codes the transitions give the same
  pub same_on : (s : List ℕ) (o : Outcome) → fits a.vars s ≡ true
      → result_codes a s ≡ result_codes b s
      → Transition a (reading s) o ↔ Transition b (reading s) o
  same_on s o fit same = (
    λ gives. subst (Transition b (reading s))
        (sym (only_by_rows a s o a_sure fit gives ∙ same_outcome s same)) (outcome_by_rows b s),
    λ gives. subst (Transition a (reading s))
        (sym (only_by_rows b s o b_sure (fits_other s fit) gives ∙ sym (same_outcome s same)))
        (outcome_by_rows a s),
  )

  -- with other codes they differ
  pub differ_on : (s : List ℕ) → fits a.vars s ≡ true → result_codes a s ≢ result_codes b s
      → DifferOn a b (reading s)
  differ_on s fit differ = record {
    snapshot = fit;
    first = outcome_by a a.rows s;
    second = outcome_by b b.rows s;
    gives_first = outcome_by_rows a s;
    gives_second = outcome_by_rows b s;
    differ = λ same. differ (ap codes_of same);
  }

  -- and where they differ the codes do
  pub codes_differ : (s : List ℕ) → DifferOn a b (reading s)
      → result_codes a s ≢ result_codes b s
  codes_differ s found same =
      found.differ
      (only_by_rows a s found.first a_sure found.snapshot found.gives_first
      ∙ same_outcome s same
      ∙ sym (only_by_rows b s found.second b_sure (fits_other s found.snapshot)
      found.gives_second))
