-- Outcomes of machines: that there is one, what it keeps, and where it is the only one.
use Rattle.std.proofs.Common.{◌≡◌, ◌⊎◌, ℕ, zero, suc, ◌+◌, true, false, ◌&&◌, List, [], ◌∷◌, ◌++◌, drop, length, Some, slice_get, IsTrue, arith, sym, ap, refl, subst, ◌∙◌, inl, inr}
use Rattle.std.specs.List.{list_all}
use Rattle.std.proofs.lemmas.Bool.{and_parts, cases_Bool, cases_order}
use Rattle.domains.specs.Tables.{fits}
use Rattle.transition_table.specs.Laws.{OneRow, NoConflicts, SomeOutcome, HaveWidths, CodesFit, IdleIsBlank, OneOutcome, TransitionFits, InputsArePresent}
use Rattle.transition_table.specs.MachineFacts.{names_codes, names_result, is_row, has_present}
use Rattle.transition_table.specs.Transitions.{allows, holds, is_enabled, result, blank, outcome_of, actions, HasWidths, IsSnapshot, IsDeterministic}
use Rattle.transition_table.specs.declared.row.Row.{Row}
use Rattle.transition_table.specs.declared.machine.Machine.{Machine}
use Rattle.transition_table.specs.declared.snapshot.Snapshot.{Snapshot}
use Rattle.transition_table.specs.declared.snapshot.Outcome.{Outcome}
use Rattle.transition_table.proofs.Ranges.{acts_of, row_there, is_present}
use Rattle.transition_table.proofs.CodesGiven.{outcome_fits, length_codes_given}
use Rattle.transition_table.proofs.Rows.{past_rows, blank_of}
use Rattle.polis_base.proofs.Places.{same_or_not}

pub one_row : OneRow
one_row m few a b s order snapshot first second =
    let past = past_rows m b s (omega arith) in
    cc

same_outcomes : (x y : Outcome) → x.fires ≡ y.fires → (x ≡ y → ⊥) ⊎ (x ≡ y)
same_outcomes x y fires =
    elim (same_or_not x.next y.next) [
      | inl next ↦ elim (same_or_not x.outs y.outs) [
        | inl outs ↦ inr (λ i. record { fires = fires i; next = next i; outs = outs i })
        | inr differ ↦ inl (λ e. differ (ap (λ (o : Outcome). o.outs) e))
      ]
      | inr differ ↦ inl (λ e. differ (ap (λ (o : Outcome). o.next) e))
    ]

pub no_conflicts : NoConflicts
no_conflicts m = (
  λ only a b s conflict. conflict.differ
      (only a b s conflict.order conflict.snapshot conflict.first conflict.second),
  λ none a b s order snapshot first second.
      elim (same_outcomes (result m a s) (result m b s) refl) [
        | inl differ ↦ absurd
            (none a b s (record {
              order = order;
              snapshot = snapshot;
              first = first;
              second = second;
              differ = differ;
            }))
        | inr same ↦ same
      ],
)

-- some row is enabled, or none is
none_more : (codes : List ℕ) (row : Row) (rows : List Row) → holds codes (Some row) ≡ false
    → ((r : ℕ) → holds codes (slice_get rows r) ≡ false) → (r : ℕ)
    → holds codes (slice_get (row ∷ rows) r) ≡ false
none_more codes row rows first others zero = first
none_more codes row rows first others (suc r) = others r

some_row : (codes : List ℕ) (rows : List Row)
    → ((r : ℕ) × IsTrue (holds codes (slice_get rows r)))
    ⊎ ((r : ℕ) → holds codes (slice_get rows r) ≡ false)
some_row codes [] = inr (λ r. refl)
some_row codes (row ∷ rows) =
    elim (cases_Bool (holds codes (Some row))) [
      | inl here ↦ inl (0, here)
      | inr held ↦ elim (some_row codes rows) [
        | inl later ↦ inl (suc later.0, later.1)
        | inr none ↦ inr (none_more codes row rows held none)
      ]
    ]

pub some_outcome : SomeOutcome
some_outcome m s =
    elim (some_row s.codes m.rows) [
      | inl row ↦ (result m row.0 s, inl (row.0, row.1, refl))
      | inr none ↦ (blank m, inr (none, refl))
    ]

-- an outcome is what some actions of the machine give
acts_named : (inputs vars results : List ℕ) (rows : List Row) (r : ℕ)
    → list_all (is_row inputs vars results) rows ≡ true
    → list_all (names_result inputs vars results) (actions (slice_get rows r)) ≡ true
acts_named inputs vars results [] r h = refl
acts_named inputs vars results (row ∷ rows) zero h =
    acts_of inputs vars results row
    (and_parts (is_row inputs vars results row) (list_all (is_row inputs vars results) rows) h).0
acts_named inputs vars results (row ∷ rows) (suc r) h =
    acts_named inputs vars results rows r
    (and_parts (is_row inputs vars results row) (list_all (is_row inputs vars results) rows) h).1

widths_of : (m : Machine) (r : ℕ) (s : Snapshot) → HasWidths m (result m r s)
widths_of m r s = record {
  next = length_codes_given m s.codes (actions (slice_get m.rows r)) 1 (length m.states);
  outs = length_codes_given m s.codes (actions (slice_get m.rows r)) (1 + length m.states)
      (length m.outputs);
}

pub have_widths : HaveWidths
have_widths m s o (inl h) = subst (HasWidths m) (sym h.2) (widths_of m h.0 s)
have_widths m s o (inr h) =
    let widths : HasWidths m (outcome_of m s.codes false []) =
    record {
      next = length_codes_given m s.codes [] 1 (length m.states);
      outs = length_codes_given m s.codes [] (1 + length m.states) (length m.outputs);
    } in
    subst (HasWidths m) (blank_of m s.codes ∙ sym h.1) widths

pub codes_fit : CodesFit
codes_fit m s o snapshot (inl h) =
    subst (λ (x : Outcome). fits (drop 1 m.results) (x.next ++ x.outs) ≡ true) (sym h.2)
    (outcome_fits m s.codes (actions (slice_get m.rows h.0)) snapshot
    (acts_named m.inputs m.vars m.results m.rows h.0 m.fitting_rows))
codes_fit m s o snapshot (inr h) =
    subst (λ (x : Outcome). fits (drop 1 m.results) (x.next ++ x.outs) ≡ true)
    (blank_of m s.codes ∙ sym h.1) (outcome_fits m s.codes [] snapshot refl)

pub idle_is_blank : IdleIsBlank
idle_is_blank m s o (inl h) idle =
    let fires : o.fires ≡ true = ap (λ (x : Outcome). x.fires) h.2 in
    cc
idle_is_blank m s o (inr h) idle = h.1

pub transition_fits : TransitionFits
transition_fits m s o snapshot h =
    record {
      widths = have_widths m s o h;
      codes = codes_fit m s o snapshot h;
      idle = idle_is_blank m s o h;
    }

-- the results of two enabled rows are one
same_result : (m : Machine) (s : Snapshot) (a b : ℕ) → IsDeterministic m → IsSnapshot m s
    → is_enabled m a s ≡ true → is_enabled m b s ≡ true → result m a s ≡ result m b s
same_result m s a b d snapshot x y =
    elim (cases_order a b) [
      | inl e ↦ ap (λ r. result m r s) e
      | inr h ↦ elim h [
        | inl below ↦ d a b s below snapshot x y
        | inr above ↦ sym (d b a s above snapshot y x)
      ]
    ]

pub one_outcome : OneOutcome
one_outcome m s o p d snapshot (inl (a, x, e)) (inl (b, y, f)) =
    e ∙ same_result m s a b d snapshot x y ∙ sym f
one_outcome m s o p d snapshot (inl (a, x, e)) (inr (none, f)) = absurd (let never = none a in cc)
one_outcome m s o p d snapshot (inr (none, e)) (inl (b, y, f)) = absurd (let never = none b in cc)
one_outcome m s o p d snapshot (inr (none, e)) (inr (nothing, f)) = e ∙ sym f

pub inputs_are_present : InputsArePresent
inputs_are_present m r k v row act s at_row at_act reads enabled =
    let fit = row_there m.inputs m.vars m.results m.rows r row m.fitting_rows at_row in
    let held : list_all (allows s.codes) row.conds ≡ true = rw at_row at enabled in
    is_present s.codes v row.conds row.acts k act
    (and_parts (list_all (names_codes m.vars) row.conds
    && list_all (names_result m.inputs m.vars m.results) row.acts)
    (list_all (λ act. has_present row.conds act.source) row.acts) fit).1 at_act reads held
