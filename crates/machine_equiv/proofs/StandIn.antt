-- Tables with the same rows say the same.
use Rattle.std.proofs.Common.{◌≡◌, inl, inr, ℕ, ◌+◌, ◌==◌, Bool, true, false, cond, List, [], ◌∷◌, map, length, replicate, slice_get, Option, Some, None, IsTrue, refl, sym, ap, ◌∙◌, subst}
use Rattle.std.proofs.lemmas.Bool.{false≢true}
use Rattle.polis_base.specs.Lists.{upto}
use Rattle.transition_table.specs.Sources.{code_of}
use Rattle.transition_table.specs.Transitions.{Transition, actions, blank, code_given, holds, is_enabled, outcome_of, result}
use Rattle.transition_table.specs.declared.decl.StateDecl.{StateDecl}
use Rattle.transition_table.specs.declared.machine.Machine.{Machine}
use Rattle.transition_table.specs.declared.row.Act.{Act}
use Rattle.transition_table.specs.declared.row.Row.{Row}
use Rattle.transition_table.specs.declared.snapshot.Outcome.{Outcome}
use Rattle.transition_table.specs.declared.snapshot.Snapshot.{Snapshot}
use Rattle.machine_equiv.specs.Comparing.{SameTable}
use Rattle.machine_equiv.specs.Laws.{SameRowsSameTable, StandIn}
use Rattle.machine_equiv.specs.Shapes.{SameForm}
use Rattle.polis_base.proofs.AgreeBelow.{same_long}

module _ (a b : Machine) (form : SameForm a b) where
  states_long : length a.states ≡ length b.states
  states_long =
      same_long (λ (state : StateDecl). state.init) (λ state. state.init) a.states b.states
      form.initial_values

  same_given : (s : List ℕ) (acts : List Act) (y : ℕ)
      → code_given a s acts y ≡ code_given b s acts y
  same_given s [] y = refl
  same_given s (act ∷ acts) y =
      ap (λ inputs. cond (act.result == y) (code_of inputs a.vars s act.result act.source)
      (code_given a s acts y)) form.inputs
      ∙ ap (λ vars. cond (act.result == y) (code_of b.inputs vars s act.result act.source)
      (code_given a s acts y)) form.vars
      ∙ ap (λ n. cond (act.result == y) (code_of b.inputs b.vars s act.result act.source) n)
      (same_given s acts y)

  -- actions give the same on the machines
  same_outcomes : (s : List ℕ) (fires : Bool) (acts : List Act)
      → outcome_of a s fires acts ≡ outcome_of b s fires acts
  same_outcomes s fires acts = λ i. record {
    fires = fires;
    next = map (λ k. same_given s acts (1 + k) i) (upto (states_long i));
    outs = map (λ k. same_given s acts (1 + states_long i + k) i) (upto (length (form.outputs i)));
  }

  same_blank : blank a ≡ blank b
  same_blank = λ i. record {
    fires = false;
    next = replicate (states_long i) 0;
    outs = replicate (length (form.outputs i)) 0;
  }

  -- a row that stands in both gives the same
  by_row : (s : Snapshot) (o : Outcome) (r : ℕ) → StandIn a.rows b.rows
      → IsTrue (is_enabled a r s) → o ≡ result a r s
      → (j : ℕ) × IsTrue (is_enabled b j s) × (o ≡ result b j s)
  by_row s o r stand enabled is =
      elim
      (slice_get a.rows r) as (λ (found : Option Row). slice_get a.rows r ≡ found
      → IsTrue (holds s.codes found) → o ≡ outcome_of a s.codes true (actions found)
      → (j : ℕ) × IsTrue (is_enabled b j s) × (o ≡ result b j s)) [
        | None ↦ λ none held gives. absurd (false≢true held)
        | Some row ↦ λ here held gives.
            let there = stand r row here in (
              there.0,
              subst (λ found. IsTrue (holds s.codes found)) (sym there.1) held,
              gives ∙ same_outcomes s.codes true row.acts
                  ∙ ap (λ found. outcome_of b s.codes true (actions found)) (sym there.1),
            )
      ] refl enabled is

  -- where no row is enabled on the one, none is on the other
  none_too : (s : Snapshot) → StandIn b.rows a.rows → ((r : ℕ) → is_enabled a r s ≡ false) → (j : ℕ)
      → is_enabled b j s ≡ false
  none_too s stand none j =
      elim
      (slice_get b.rows j) as (λ (found : Option Row). slice_get b.rows j ≡ found
      → holds s.codes found ≡ false) [
        | None ↦ λ here. refl
        | Some row ↦ λ here.
            let there = stand j row here in
            ap (holds s.codes) (sym there.1) ∙ none there.0
      ] refl

  pub gives_too : (s : Snapshot) (o : Outcome) → StandIn a.rows b.rows → StandIn b.rows a.rows
      → Transition a s o → Transition b s o
  gives_too s o forth back (inl (r, enabled, is)) = inl (by_row s o r forth enabled is)
  gives_too s o forth back (inr (none, is)) = inr (none_too s back none, is ∙ same_blank)

turned_form : (a b : Machine) → SameForm a b → SameForm b a
turned_form a b form = record {
  inputs = sym form.inputs;
  outputs = sym form.outputs;
  initial_values = sym form.initial_values;
  vars = sym form.vars;
  results = sym form.results;
}

pub same_rows : SameRowsSameTable
same_rows a b form forth back s o snapshot = (
  gives_too a b form s o forth back,
  gives_too b a (turned_form a b form) s o back forth,
)

-- and so do tables that are written the same
pub same_lists_same_table : (a b : Machine) → SameForm a b → a.rows ≡ b.rows → SameTable a b
same_lists_same_table a b form same =
    same_rows a b form
    (λ k row is. (k, subst (λ (rows : List Row). slice_get rows k ≡ Some row) same is))
    (λ k row is. (k, subst (λ (rows : List Row). slice_get rows k ≡ Some row) (sym same) is))
