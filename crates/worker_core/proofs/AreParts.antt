-- What the core's code makes of what it keeps.
use Rattle.std.specs.Prelude.{◌≡◌, ℕ, ◌<◌, Bool, true, false, ◌&&◌, nat_lt, is_none, List, [], ◌∷◌, length, drop, slice_get, Option, Some, None, option_map, IsSomeAnd, Result, Ok, Err, IfOk, OnOk, OnErr, IsFalse}
use Rattle.std.specs.Bool.{then_some}
use Rattle.std.specs.List.{list_all}
use Rattle.std.proofs.Common.{refl, sym, ap, ◌∙◌, subst, arith}
use Rattle.std.proofs.lemmas.Option.{same_Some, none-some}
use Rattle.std.proofs.lemmas.Bool.{and_parts}
use Rattle.polis_base.specs.Lists.{head_of}
use Rattle.transition_table.specs.Transitions.{OfMachine, IsSnapshot, IsOutcome, HasWidths}
use Rattle.transition_table.specs.declared.decl.Party.TheVariants.{Env, Machine as Sender}
use Rattle.transition_table.specs.declared.machine.Machine.{Machine}
use Rattle.transition_table.specs.declared.network.Network.{Network}
use Rattle.journals.specs.declared.entry.Entry.{Entry}
use Rattle.journals.specs.declared.entry.Entry.TheVariants.{Dep, Rea}
use Rattle.journals.specs.declared.entry.Owed.{Owed}
use Rattle.journals.specs.declared.entry.TraceItem.{TraceItem}
use Rattle.journals.specs.declared.stamped.CoreStep.{CoreStep}
use Rattle.journals.specs.declared.stamped.Stamped.{Stamped}
use Rattle.journals.specs.Journals.{FitsNetwork, is_woken}
use Rattle.journals.specs.Laws.{MovesWaking}
use Rattle.journals.specs.Logs.{entries, clock, max_stamp}
use Rattle.journals.specs.Moved.{machine_of, SuitsMachine}
use Rattle.worker_core.specs.declared.parts.Parts.{Parts}
use Rattle.worker_core.specs.declared.state.Hand.{Hand}
use Rattle.worker_core.specs.CoreLaws.{StepsKeepCores}
use Rattle.worker_core.specs.Cores.{CoreState, log_of, hand_of, may_react, take_step}
use Rattle.worker_core.specs.Facts.{IsCore, is_due, deliveries_in}
use Rattle.worker_core.specs.Parts.{state_of, own_moments, AreParts}
use Rattle.worker_core.specs.inner.Parts.{ends_in_delivery, first_held}
use Rattle.worker_core.proofs.OwnMoments.{woken_at_end}
use Rattle.worker_core.proofs.FactsAfterLanding.{due_within}
use Rattle.worker_core.proofs.IsCore.{woken_inside}
use Rattle.journals.proofs.Reactions.{none_within}

pub may_react_is : (net : Network) (trace : List TraceItem) (state : CoreState) (m n : ℕ)
    (idle woken : Bool) (a b : List Stamped) → MovesWaking → IsCore net trace state
    → a ≡ log_of state m
    → b ≡ log_of state m
    → idle ≡ is_none (hand_of state m)
    → woken ≡ ends_in_delivery a
    → n ≡ clock b
    → (idle && woken && nat_lt n max_stamp) ≡ may_react m (log_of state m) (hand_of state m)
may_react_is net trace state m n idle woken a b moves core is same free ends now =
    ap (λ x. x && woken && nat_lt n max_stamp) free
    ∙ ap (λ x. is_none (hand_of state m) && x && nat_lt n max_stamp)
    (ends ∙ ap ends_in_delivery is
    ∙ sym (woken_at_end net m (log_of state m) moves (core.facts.alone m).own))
    ∙ ap (λ k. is_none (hand_of state m) && is_woken (entries (log_of state m)) m
    && nat_lt k max_stamp) (now ∙ ap clock same)

pub may_react_inside : (net : Network) (trace : List TraceItem) (state : CoreState) (m : ℕ)
    → IsCore net trace state → may_react m (log_of state m) (hand_of state m) ≡ true
    → m < length net.machines
may_react_inside net trace state m core may =
    let idle : Bool = is_none (hand_of state m) in
    let woken : Bool = is_woken (entries (log_of state m)) m in
    let inside =
    woken_inside state m
    (and_parts idle woken
    (and_parts (idle && woken) (nat_lt (clock (log_of state m)) max_stamp) may).0).1 in
    let many = core.logs in
    omega arith

pub suits : (net : Network) (m : ℕ) (entry : Entry) → FitsNetwork net entry → machine_of entry ≡ m
    → m < length net.machines → OfMachine net m (λ machine. SuitsMachine machine entry)
suits net m (Dep s to e c) h own below = any (slice_get net.machines m) refl
  where
    any : (found : Option Machine) → slice_get net.machines m ≡ found
        → IsSomeAnd found (λ machine. SuitsMachine machine (Dep s to e c))
    any None is = absurd (none_within net.machines m below is)
    any (Some machine) is = tt
suits net m (Rea k s o) h own below =
    subst (λ j. OfMachine net j (λ machine. HasWidths machine o)) own
    (at (slice_get net.machines k) h)
  where
    at : (found : Option Machine)
        → IsSomeAnd found (λ machine. IsSnapshot machine s × IsOutcome machine o)
        → IsSomeAnd found (λ machine. HasWidths machine o)
    at None h = absurd h
    at (Some machine) h = h.1.widths

-- ---- what is in hand, and what is in the rest

held_parts : (h : Option Hand) (p : Owed × ℕ) → first_held h ≡ Some p
    → (ds : List Owed) × (h ≡ Some (record { stamp = p.1; deliveries = p.0 ∷ ds }))
held_parts None p e = absurd (none-some p e)
held_parts (Some hand) p e = cases hand.deliveries refl e
  where
    cases : (ds : List Owed) → hand.deliveries ≡ ds
        → option_map (λ (d : Owed). (d, hand.stamp)) (head_of ds) ≡ Some p
        → (ds : List Owed) × (Some hand ≡ Some (record { stamp = p.1; deliveries = p.0 ∷ ds }))
    cases [] has e = absurd (none-some p e)
    cases (d ∷ ds) has e =
        let same : ◌≡◌ {A = Owed × ℕ} (d, hand.stamp) p = same_Some (d, hand.stamp) p e in (
          ds,
          (λ i. Some
              (record {
                stamp = (same i).1;
                deliveries = (has ∙ ap (λ (q : Owed × ℕ). q.0 ∷ ds) same) i;
              })),
        )

pub held_within : (net : Network) (trace : List TraceItem) (state : CoreState) (s : ℕ)
    (p : Owed × ℕ) → IsCore net trace state → first_held (hand_of state s) ≡ Some p
    → (p.0).to < length net.machines
held_within net trace state s p core e =
    let parts = held_parts (hand_of state s) p e in
    let due : list_all (is_due net (Sender s)) (p.0 ∷ parts.0) ≡ true =
    sym (ap (λ h. list_all (is_due net (Sender s)) (deliveries_in h)) parts.1)
    ∙ core.facts.due (Sender s) in
    due_within net (Sender s) p.0
    (and_parts (is_due net (Sender s) p.0) (list_all (is_due net (Sender s)) parts.0) due).0

rest_parts : (ds : List Owed) (d : Owed) → head_of ds ≡ Some d → ds ≡ d ∷ drop 1 ds
rest_parts [] d e = absurd (none-some d e)
rest_parts (x ∷ ds) d e = ap (λ y. y ∷ ds) (same_Some x d e)

pub rest_within : (net : Network) (trace : List TraceItem) (state : CoreState) (d : Owed)
    → IsCore net trace state → head_of state.rest ≡ Some d → d.to < length net.machines
rest_within net trace state d core e =
    let due : list_all (is_due net Env) (d ∷ drop 1 state.rest) ≡ true =
    sym (ap (list_all (is_due net Env)) (rest_parts state.rest d e)) ∙ core.facts.due Env in
    due_within net Env d
    (and_parts (is_due net Env d) (list_all (is_due net Env) (drop 1 state.rest)) due).0

-- ---- a step

-- a core, and the snapshots of its machines, after a step
pub step_parts : (net : Network) (trace : List TraceItem) (old new : Parts) (step : CoreStep)
    (taken : Bool) → StepsKeepCores → AreParts net trace old
    → then_some taken (state_of new) ≡ take_step net (state_of old) step
    → (IsFalse taken → new ≡ old)
    → new.moments ≡ own_moments net new.logs
    → AreParts net trace new
step_parts net trace old new step true keeps parts is same moments =
    record {
      core = keeps net trace (state_of old) (state_of new) step parts.core (sym is);
      moments_are = moments;
    }
step_parts net trace old new step false keeps parts is same moments =
    subst (AreParts net trace) (sym (same refl)) parts

pub parts_after : {E : Type 0} (net : Network) (trace : List TraceItem) (old new : Parts)
    (step : CoreStep) (r : Result Bool E) → StepsKeepCores → AreParts net trace old
    → IfOk r (λ taken. then_some taken (state_of new) ≡ take_step net (state_of old) step)
    → OnOk r (new.moments ≡ own_moments net new.logs)
    → IfOk r (λ taken. IsFalse taken → new ≡ old)
    → OnErr r (new ≡ old)
    → AreParts net trace new
parts_after net trace old new step (Ok taken) keeps parts is moments same err =
    step_parts net trace old new step taken keeps parts is same moments
parts_after net trace old new step (Err e) keeps parts is moments same err =
    subst (AreParts net trace) (sym err) parts
