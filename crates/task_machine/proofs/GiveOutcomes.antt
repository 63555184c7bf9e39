-- The machine of a number, and its code.
use Rattle.std.proofs.Common.{◌≡◌, ℕ, List, slice_get, Option, Some, None, refl, sym, subst, ◌∙◌}
use Rattle.std.specs.Prelude.{IsSomeAnd}
use Rattle.transition_table.specs.declared.machine.Machine.{Machine}
use Rattle.transition_table.specs.declared.network.Network.{Network}
use Rattle.transition_table.specs.declared.snapshot.Snapshot.{Snapshot}
use Rattle.transition_table.specs.declared.snapshot.Outcome.{Outcome}
use Rattle.transition_table.specs.Transitions.{OfMachine, IsSnapshot, HasWidths, Transition, AreDeterministic}
use Rattle.task_code.specs.declared.instr.Instr.{Instr}
use Rattle.task_code.specs.Codes.{Exec}
use Rattle.transition_table.specs.Laws.{OutcomeByRows, OnlyByRows}
use Rattle.task_machine.specs.Running.{AreOfOne}
use Rattle.task_machine.specs.Tasks.{AreTasks, GiveOutcomes}

both : (o : Option Machine) (P Q : Machine → Type 0) → IsSomeAnd o P → IsSomeAnd o Q
    → (m : Machine) × (o ≡ Some m) × P m × Q m
both None P Q p q = absurd p
both (Some m) P Q p q = (m, refl, p, q)

pub of_one : (net : Network) (codes : List (List Instr)) (k : ℕ) (c : List Instr) (s : Snapshot)
    (o : Outcome) → GiveOutcomes net codes → slice_get codes k ≡ Some c
    → OfMachine net k (λ m. IsSnapshot m s) → OfMachine net k (λ m. HasWidths m o) → AreOfOne c s o
of_one net codes k c s o tasks is snapshot widths =
    let m = both (slice_get net.machines k) (λ m. IsSnapshot m s) (λ m. HasWidths m o) snapshot
    widths in
    record { machine = m.0; code = tasks.fits k m.0 c m.1 is; snapshot = m.2; widths = m.3 }

pub reacted : OutcomeByRows
    → (net : Network) (codes : List (List Instr)) (k : ℕ) (c : List Instr) (s : Snapshot)
    (o new : Outcome) → GiveOutcomes net codes → slice_get codes k ≡ Some c
    → OfMachine net k (λ m. IsSnapshot m s) → OfMachine net k (λ m. HasWidths m o)
    → ((m : Machine) → HasWidths m o → new ≡ Exec m c s.codes)
    → OfMachine net k (λ m. Transition m s new)
reacted by_rows net codes k c s o new tasks is snapshot widths ran =
    let m = both (slice_get net.machines k) (λ m. IsSnapshot m s) (λ m. HasWidths m o) snapshot
    widths in
    subst (λ (x : Option Machine). IsSomeAnd x (λ m. Transition m s new)) (sym m.1)
    (subst (Transition m.0 s) (sym (ran m.0 m.3 ∙ tasks.gives k m.0 c s.codes m.1 is m.2))
    (by_rows m.0 s.codes))

pub give_outcomes : OnlyByRows → (net : Network) (codes : List (List Instr)) → AreDeterministic net
    → AreTasks net codes → GiveOutcomes net codes
give_outcomes one net codes sure tasks = record {
  long = tasks.long;
  fits = tasks.fits;
  gives = λ k m c s is_m is_c fit. one m s (Exec m c s) (sure k m is_m) fit
      (tasks.computes k m c is_m is_c s fit);
}
