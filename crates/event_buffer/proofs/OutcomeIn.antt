-- The outcome by the rows is the transition's, and the only one.
use Rattle.std.specs.Prelude.{◌≡◌, ℕ, ◌<◌, slice_get, length, Option, Some, None, option_map, unwrap_or, false, [], IsSomeAnd}
use Rattle.std.proofs.Common.{refl, sym, ap, ◌∙◌, subst, inl, inr, arith}
use Rattle.std.proofs.lemmas.Option.{slice_get_cases}
use Rattle.transition_table.specs.Laws.{OneOutcome, TransitionFits}
use Rattle.transition_table.specs.Transitions.{OfMachine, IsSnapshot, HasWidths, IsOutcome, Transition, AreDeterministic}
use Rattle.transition_table.specs.declared.machine.Machine.{Machine}
use Rattle.transition_table.specs.declared.network.Network.{Network}
use Rattle.transition_table.specs.declared.snapshot.Snapshot.{Snapshot}
use Rattle.transition_table.specs.declared.snapshot.Outcome.{Outcome}
use Rattle.journals.specs.declared.entry.Entry.TheVariants.{Rea}
use Rattle.journals.specs.Journals.{FitsNetwork}
use Rattle.journals.specs.Laws.{GivesTransition}
use Rattle.journals.specs.Reactions.{outcome_on, outcome_in}

outcome_is :
    (net : Network) (m : ℕ) (machine : Machine) (s : Snapshot)
    → slice_get net.machines m ≡ Some machine → outcome_in net m s ≡ outcome_on machine s
outcome_is net m machine s at =
    ap
    (λ (o : Option Machine). unwrap_or (option_map (λ machine. outcome_on machine s) o)
    (record { fires = false; next = []; outs = [] }))
    at

pub outcome_holds :
    (net : Network) (m : ℕ) (s : Snapshot)
    → GivesTransition
    → m < length net.machines
    → OfMachine net m (λ machine. Transition machine s (outcome_in net m s))
outcome_holds net m s gives below =
    elim (slice_get_cases net.machines m).1 [
      | inl (machine, within, at, same) ↦
          subst
          (λ (o : Option Machine).
          IsSomeAnd o (λ machine. Transition machine s (outcome_in net m s)))
          (sym at)
          (subst (Transition machine s) (sym (outcome_is net m machine s at)) (gives machine s))
      | inr (past, none) ↦ absurd (omega arith)
    ]

-- what a reactor writes is that outcome
pub one_written :
    (net : Network) (m : ℕ) (s : Snapshot) (o : Outcome)
    → OneOutcome
    → GivesTransition
    → AreDeterministic net
    → OfMachine net m (λ machine. IsSnapshot machine s)
    → OfMachine net m (λ machine. Transition machine s o)
    → o ≡ outcome_in net m s
one_written net m s o one gives all fits written =
    elim (slice_get net.machines m) as (λ (found : Option Machine).
    slice_get net.machines m ≡ found
    → IsSomeAnd found (λ machine. IsSnapshot machine s)
    → IsSomeAnd found (λ machine. Transition machine s o)
    → o ≡ outcome_in net m s) [
      | None ↦ λ is none other. absurd none
      | Some machine ↦ λ is snapshot transition.
          one machine s o (outcome_on machine s) (all m machine is) snapshot transition
          (gives machine s)
          ∙ sym (outcome_is net m machine s is)
    ] refl fits written

pub written_fits :
    (net : Network) (m : ℕ) (s : Snapshot) (o : Outcome)
    → TransitionFits
    → OfMachine net m (λ machine. IsSnapshot machine s)
    → OfMachine net m (λ machine. Transition machine s o)
    → FitsNetwork net (Rea m s o)
written_fits net m s o fits snapshot transition =
    elim (slice_get net.machines m) as (λ (found : Option Machine).
    IsSomeAnd found (λ machine. IsSnapshot machine s)
    → IsSomeAnd found (λ machine. Transition machine s o)
    → IsSomeAnd found (λ machine. IsSnapshot machine s × IsOutcome machine o)) [
      | None ↦ λ none other. absurd none
      | Some machine ↦ λ here there. (here, fits machine s o here there)
    ] snapshot transition

pub written_widths :
    (net : Network) (m : ℕ) (s : Snapshot) (o : Outcome)
    → TransitionFits
    → OfMachine net m (λ machine. IsSnapshot machine s)
    → OfMachine net m (λ machine. Transition machine s o)
    → OfMachine net m (λ machine. HasWidths machine o)
written_widths net m s o fits snapshot transition =
    elim (slice_get net.machines m) as (λ (found : Option Machine).
    IsSomeAnd found (λ machine. IsSnapshot machine s)
    → IsSomeAnd found (λ machine. Transition machine s o)
    → IsSomeAnd found (λ machine. HasWidths machine o)) [
      | None ↦ λ none other. absurd none
      | Some machine ↦ λ here there. (fits machine s o here there).widths
    ] snapshot transition
