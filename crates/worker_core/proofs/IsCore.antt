-- The start is a core, and each step leads from a core to a core.
use Rattle.std.specs.Prelude.{◌≡◌, ℕ, zero, suc, ◌<◌, max, Bool, true, false, ◌&&◌, nat_lt, is_none, List, ◌∷◌, ◌++◌, map, filter, flat_map, length, get_or, set, replicate, slice_get, Option, Some, None, option_map, unwrap_or, IsSomeAnd, []}
use Rattle.std.specs.Bool.{then_some}
use Rattle.std.specs.List.{list_all}
use Rattle.std.proofs.Common.{refl, sym, ap, ◌∙◌, subst, inl, inr, arith}
use Rattle.std.proofs.lemmas.List.{length-set, length-replicate, get_or-set_same, get_or-set_other, get_or_past}
use Rattle.std.proofs.lemmas.Option.{same_Some, none-some}
use Rattle.std.proofs.lemmas.Bool.{false≢true, leb-true, ltb-true, cases_eq, cases_lt, eqb-false, and_parts}
use Rattle.transition_table.specs.Transitions.{Transition}
use Rattle.transition_table.specs.declared.decl.Party.{Party}
use Rattle.transition_table.specs.declared.decl.Party.TheVariants.{Env, Machine as Sender}
use Rattle.transition_table.specs.declared.machine.Machine.{Machine}
use Rattle.transition_table.specs.declared.network.Network.{Network}
use Rattle.transition_table.specs.declared.snapshot.Snapshot.{Snapshot}
use Rattle.journals.specs.declared.entry.Entry.{Entry}
use Rattle.journals.specs.declared.entry.Owed.{Owed}
use Rattle.journals.specs.declared.entry.TraceItem.{TraceItem}
use Rattle.journals.specs.Journals.{IsTrace, same_party, snap, is_woken, delivered, sent}
use Rattle.journals.specs.Reactions.{MayReactIfReaction}
use Rattle.journals.specs.Schedules.{trace_deliveries}
use Rattle.journals.specs.declared.stamped.Stamped.{Stamped}
use Rattle.worker_core.specs.declared.state.Hand.{Hand}
use Rattle.journals.specs.declared.stamped.CoreStep.{CoreStep}
use Rattle.journals.specs.declared.stamped.CoreStep.TheVariants.{React, Land, Free, Feed}
use Rattle.worker_core.specs.Cores.{CoreState, log_of, hand_of, at_start, hand_after, with_entry, may_react, may_land, reacting, reacted, landing, landed, land, freed, free, fed, take_step, run_steps}
use Rattle.journals.specs.Logs.{entries, clock, max_stamp}
use Rattle.journals.specs.Reactions.{outcome_on, outcome_in, reaction}
use Rattle.worker_core.specs.CoreLaws.{RunsWell}
use Rattle.worker_core.specs.Facts.{CoreFacts, IsCore, count_entries, held_by, deliveries_in, on_way, is_due, is_last_firing, is_hand_within, log_of_party, stamped_below}
use Rattle.journals.specs.Schedules.{is_way, event_code}
use Rattle.journals.proofs.DeliveredBeginsSent.{party_from_same}
use Rattle.journals.proofs.DeliveriesOfWay.{filter_of_map}
use Rattle.worker_core.specs.inner.Known.{Known}
use Rattle.worker_core.proofs.Due.{trace_due}
use Rattle.worker_core.proofs.OneEntryMore.{HasMore, clock_within, count_more}
use Rattle.worker_core.proofs.FactsAfterReaction.{keeps_reaction}
use Rattle.worker_core.proofs.FactsAfterLanding.{stamps_in, stamp_held_by, sent_by_then, due_fits, due_within, keeps_landing, keeps_freeing}
use Rattle.worker_core.proofs.AllLeastIn.{stamp_in}
use Rattle.journals.specs.Stamps.{greatest}
use Rattle.worker_core.proofs.Legal.{merged_is_legal, merged_is_least}
use Rattle.journals.proofs.Reactions.{none_within}
use Rattle.polis_base.proofs.Places.{map_of_map}

-- ---- the start

pub same_everywhere : {X : Type 0} (n m : ℕ) (x : X) → get_or (replicate n x) m x ≡ x
same_everywhere zero m x = refl
same_everywhere (suc n) zero x = refl
same_everywhere (suc n) (suc m) x = same_everywhere n m x

pub no_entries : (n : ℕ) → flat_map (λ (log : List Stamped). log) (replicate n []) ≡ []
no_entries zero = refl
no_entries (suc n) = no_entries n

first_facts : (net : Network) (trace : List TraceItem) → Known → IsTrace net trace
    → CoreFacts net trace (λ m. []) (λ m. None)
    (map (λ d. d.0) (trace_deliveries net false trace)) 0
first_facts net trace known h = record {
  alone = λ m. record { rising = refl; fitting = tt; own = refl; reacting = tt };
  in_time = λ m. tt;
  on_the_way = by;
  last_firing = λ m. refl;
  due = due;
  within = λ m. refl;
  hands_within = λ m. refl;
  least = λ m. tt;
  held_stamps = λ s m. refl;
}
  where
    deliveries : List (Owed × Bool)
    deliveries = trace_deliveries net false trace

    by : (p : Party) (k : ℕ)
        → delivered p k []
        ++ on_way p k (held_by (λ m. None) (map (λ (d : Owed × Bool). d.0) deliveries) p)
        ≡ sent net trace p k (entries (log_of_party (λ m. []) p))
    by Env k =
        ap (map event_code) (filter_of_map (is_way Env k) (λ (d : Owed × Bool). d.0) deliveries)
        ∙ map_of_map event_code (λ (d : Owed × Bool). d.0)
        (filter (λ (d : Owed × Bool). is_way Env k d.0) deliveries)
        ∙ known.trace_gives net k false trace
    by (Sender j) k = refl

    due : (p : Party)
        → list_all (is_due net p)
        (held_by (λ m. None) (map (λ (d : Owed × Bool). d.0) deliveries) p) ≡ true
    due Env = trace_due net false trace known h
    due (Sender j) = refl

pub start_is_core : (net : Network) (trace : List TraceItem) → Known → IsTrace net trace
    → IsCore net trace (at_start net trace)
start_is_core net trace known h =
    let n : ℕ = length net.machines in
    let rest : List Owed = map (λ (d : Owed × Bool). d.0) (trace_deliveries net false trace) in
    let logs : ◌≡◌ {A = ℕ → List Stamped} (λ m. []) (λ m. get_or (replicate n []) m []) =
    λ i m. sym (same_everywhere n m []) i in
    let hands : ◌≡◌ {A = ℕ → Option Hand} (λ m. None) (λ m. get_or (replicate n None) m None) =
    λ i m. sym (same_everywhere n m None) i in
    let none : 0 ≡ count_entries (replicate n []) = sym (ap length (no_entries n)) in
    record {
      logs = length-replicate n [];
      hands = length-replicate n None;
      facts =
          subst (CoreFacts net trace (λ m. get_or (replicate n []) m [])
          (λ m. get_or (replicate n None) m None) rest) none
          (subst (λ hands. CoreFacts net trace
          (λ m. get_or (replicate n []) m []) hands rest 0) hands
          (subst (λ logs. CoreFacts net trace logs (λ m. None) rest 0) logs
          (first_facts net trace known h)));
    }

-- ---- the reaction

made : (net : Network) (m : ℕ) (s : Snapshot) (found : Option Machine) → Known
    → slice_get net.machines m ≡ found → m < length net.machines
    → IsSomeAnd found
    (λ machine. Transition machine s
    (unwrap_or (option_map (λ machine. outcome_on machine s) found)
    (record { fires = false; next = []; outs = [] })))
made net m s None known is below = absurd (none_within net.machines m below is)
made net m s (Some machine) known is below = known.gives_transition machine s

pub reaction_may_follow : (net : Network) (m : ℕ) (journal : List Entry) → Known
    → m < length net.machines → is_woken journal m ≡ true
    → MayReactIfReaction net journal (reaction net m journal)
reaction_may_follow net m journal known below woken =
    (woken, refl, made net m (snap net journal m) (slice_get net.machines m) known refl below)

-- ---- one entry more

more_in_list : (state : CoreState) (m : ℕ) (x : Stamped) → m < length state.logs
    → HasMore (log_of state) (λ k. get_or (with_entry state m x) k []) m x
more_in_list state m x below = record {
  here = get_or-set_same state.logs m (log_of state m ++ x ∷ []) [] below;
  away = λ k other. get_or-set_other state.logs m k (log_of state m ++ x ∷ []) [] other;
}

pub is_none_at : (h : Option Hand) → is_none h ≡ true → h ≡ None
is_none_at None e = refl
is_none_at (Some hand) e = absurd (false≢true e)

pub woken_inside : (state : CoreState) (m : ℕ) → is_woken (entries (log_of state m)) m ≡ true
    → m < length state.logs
woken_inside state m woken =
    elim (cases_lt m (length state.logs)) [
      | inl inside ↦ inside
      | inr past ↦ absurd
          (false≢true
          (sym (ap (λ (l : List Stamped). is_woken (entries l) m)
          (get_or_past state.logs m [] past)) ∙ woken))
    ]

pub hand_inside : (state : CoreState) (m : ℕ) (hand : Hand) → hand_of state m ≡ Some hand
    → m < length state.hands
hand_inside state m hand is =
    elim (cases_lt m (length state.hands)) [
      | inl inside ↦ inside
      | inr past ↦ absurd (none-some hand (sym (get_or_past state.hands m None past) ∙ is))
    ]

-- ---- the steps

pub react_keeps : (net : Network) (trace : List TraceItem) (state : CoreState) (m : ℕ) → Known
    → IsCore net trace state → may_react m (log_of state m) (hand_of state m) ≡ true
    → IsCore net trace (reacted net state m)
react_keeps net trace state m known core may =
    let idle : Bool = is_none (hand_of state m) in
    let journal : List Entry = entries (log_of state m) in
    let woken : Bool = is_woken journal m in
    let parts = and_parts (idle && woken) (nat_lt (clock (log_of state m)) max_stamp) may in
    let both = and_parts idle woken parts.0 in
    let inside : m < length state.logs = woken_inside state m both.1 in
    let many = core.logs in
    let busy = core.hands in
    let below : m < length net.machines = omega arith in
    let held : m < length state.hands = omega arith in
    let low =
    clock_within 0 (count_entries state.logs) (log_of state m) (omega arith)
    (core.facts.within m) in
    let most = ltb-true (clock (log_of state m)) max_stamp parts.1 in
    let x : Stamped = reacting net m (log_of state m) in
    let s : Snapshot = snap net journal m in
    record {
      logs = length-set state.logs m (log_of state m ++ x ∷ []) ∙ core.logs;
      hands = length-set state.hands m (hand_after net x) ∙ core.hands;
      facts =
          subst (CoreFacts net trace (log_of (reacted net state m))
          (hand_of (reacted net state m)) state.rest) (sym (count_more state.logs m x inside))
          (keeps_reaction net trace (log_of state) (log_of (reacted net state m)) (hand_of state)
          (hand_of (reacted net state m)) state.rest (count_entries state.logs) m x.stamp s
          (outcome_in net m s)
          known core.facts (more_in_list state m x inside) (is_none_at (hand_of state m) both.0)
          (get_or-set_same state.hands m (hand_after net x) None held)
          (λ k other. get_or-set_other state.hands m k (hand_after net x) None other)
          (omega arith) (omega arith) (omega arith)
          (known.reaction_fits net m journal (core.facts.alone m).fitting below)
          (reaction_may_follow net m journal known below both.1));
    }

-- what a landing of d at t makes of the state, s being its sender
pub land_keeps : (net : Network) (trace : List TraceItem) (state : CoreState) (s : ℕ) (hand : Hand)
    (d : Owed) (ds : List Owed) → Known → IsCore net trace state → hand_of state s ≡ Some hand
    → hand.deliveries ≡ d ∷ ds → may_land (log_of state d.to) hand.stamp ≡ true
    → IsCore net trace
    (record state {
      logs = with_entry state d.to (landing (log_of state d.to) hand.stamp d);
      hands = set state.hands s (Some (record { stamp = hand.stamp; deliveries = ds }));
    })
land_keeps net trace state s hand d ds known core is has may =
    let held : deliveries_in (hand_of state s) ≡ d ∷ ds = ap deliveries_in is ∙ has in
    let first : is_due net (Sender s) d ≡ true =
    (and_parts (is_due net (Sender s) d) (list_all (is_due net (Sender s)) ds)
    (sym (ap (list_all (is_due net (Sender s))) held) ∙ core.facts.due (Sender s))).0 in
    let from : d.from ≡ Sender s =
    party_from_same d.from (Sender s) (due_fits net (Sender s) d first).2 in
    let below = due_within net (Sender s) d first in
    let many = core.logs in
    let inside : d.to < length state.logs = omega arith in
    let mine : s < length state.hands = hand_inside state s hand is in
    let low =
    clock_within 0 (count_entries state.logs) (log_of state d.to) (omega arith)
    (core.facts.within d.to) in
    let small =
    leb-true hand.stamp (count_entries state.logs)
    (sym (ap (is_hand_within (count_entries state.logs)) is) ∙ core.facts.hands_within s) in
    let most = ltb-true (max (clock (log_of state d.to)) hand.stamp) max_stamp may in
    let x : Stamped = landing (log_of state d.to) hand.stamp d in
    let origin : greatest (stamp_held_by (hand_of state) d.from) ≡ max hand.stamp 0 =
    ap (λ q. greatest (stamp_held_by (hand_of state) q)) from
    ∙ ap (λ h. greatest (stamps_in h)) is in
    let left : Hand = record { stamp = hand.stamp; deliveries = ds } in
    let next : CoreState =
    record state { logs = with_entry state d.to x; hands = set state.hands s (Some left) } in
    let at : hand_of next s ≡ Some left = get_or-set_same state.hands s (Some left) None mine in
    let others : (k : ℕ) → (k ≡ s → ⊥) → hand_of next k ≡ hand_of state k =
    λ k other. get_or-set_other state.hands s k (Some left) None other in
    record {
      logs = length-set state.logs d.to (log_of state d.to ++ x ∷ []) ∙ core.logs;
      hands = length-set state.hands s (Some left) ∙ core.hands;
      facts =
          subst (CoreFacts net trace (log_of next) (hand_of next) state.rest)
          (sym (count_more state.logs d.to x inside))
          (keeps_landing net trace (log_of state) (log_of next) (hand_of state)
          (hand_of next) state.rest state.rest (count_entries state.logs) x.stamp d ds
          known core.facts (more_in_list state d.to x inside)
          (ap (held_by (hand_of state) state.rest) from ∙ held)
          (ap (held_by (hand_of next) state.rest) from ∙ ap deliveries_in at)
          (λ p other. away (hand_of next) others p (sym (ap (λ q. same_party q p) from) ∙ other))
          (λ k. elim (cases_eq k s) [
            | inl same ↦ subst (λ j. stamp_in (hand_of next j) ≡ stamp_in (hand_of state j))
                (sym same) (ap stamp_in at ∙ sym (ap stamp_in is))
            | inr other ↦ ap stamp_in (others k other)
          ])
          (subst (λ q. sent net trace q d.to
          (entries (stamped_below x.stamp (log_of_party (log_of state) q)))
          ≡ sent net trace q d.to (entries (log_of_party (log_of state) q))) (sym from)
          (sent_by_then net trace s d.to x.stamp (log_of state s) hand (core.facts.alone s).rising
          (sym (ap (is_last_firing s (log_of state s)) is) ∙ core.facts.last_firing s)
          (omega arith)))
          (omega arith) (omega arith) (omega arith));
    }
  where
    away : (left : ℕ → Option Hand) → ((k : ℕ) → (k ≡ s → ⊥) → left k ≡ hand_of state k)
        → (p : Party) → same_party (Sender s) p ≡ false
        → held_by left state.rest p ≡ held_by (hand_of state) state.rest p
    away left others Env h = refl
    away left others (Sender j) h = ap deliveries_in (others j (λ e. eqb-false s j h (sym e)))

pub feed_keeps : (net : Network) (trace : List TraceItem) (state : CoreState) (d : Owed)
    (ds : List Owed) → Known → IsCore net trace state → state.rest ≡ d ∷ ds
    → may_land (log_of state d.to) 0 ≡ true
    → IsCore net trace
    (record state { logs = with_entry state d.to (landing (log_of state d.to) 0 d); rest = ds })
feed_keeps net trace state d ds known core has may =
    let first : is_due net Env d ≡ true =
    (and_parts (is_due net Env d) (list_all (is_due net Env) ds)
    (sym (ap (list_all (is_due net Env)) has) ∙ core.facts.due Env)).0 in
    let from : d.from ≡ Env = party_from_same d.from Env (due_fits net Env d first).2 in
    let below = due_within net Env d first in
    let many = core.logs in
    let inside : d.to < length state.logs = omega arith in
    let low =
    clock_within 0 (count_entries state.logs) (log_of state d.to) (omega arith)
    (core.facts.within d.to) in
    let most = ltb-true (max (clock (log_of state d.to)) 0) max_stamp may in
    let origin : greatest (stamp_held_by (hand_of state) d.from) ≡ 0 =
    ap (λ q. greatest (stamp_held_by (hand_of state) q)) from in
    let x : Stamped = landing (log_of state d.to) 0 d in
    let next : CoreState = record state { logs = with_entry state d.to x; rest = ds } in
    record {
      logs = length-set state.logs d.to (log_of state d.to ++ x ∷ []) ∙ core.logs;
      hands = core.hands;
      facts =
          subst (CoreFacts net trace (log_of next) (hand_of state) ds)
          (sym (count_more state.logs d.to x inside))
          (keeps_landing net trace (log_of state) (log_of next) (hand_of state)
          (hand_of state) state.rest ds (count_entries state.logs) x.stamp d ds
          known core.facts (more_in_list state d.to x inside)
          (ap (held_by (hand_of state) state.rest) from ∙ has)
          (ap (held_by (hand_of state) ds) from)
          (λ p other. away p (sym (ap (λ q. same_party q p) from) ∙ other))
          (λ k. refl)
          (subst (λ q. sent net trace q d.to
          (entries (stamped_below x.stamp (log_of_party (log_of state) q)))
          ≡ sent net trace q d.to (entries (log_of_party (log_of state) q))) (sym from) refl)
          (omega arith) (omega arith) (omega arith));
    }
  where
    away : (p : Party) → same_party Env p ≡ false
        → held_by (hand_of state) ds p ≡ held_by (hand_of state) state.rest p
    away Env h = absurd (false≢true (sym h))
    away (Sender j) h = refl

pub free_keeps : (net : Network) (trace : List TraceItem) (state : CoreState) (s : ℕ) (hand : Hand)
    → IsCore net trace state → hand_of state s ≡ Some hand → hand.deliveries ≡ []
    → IsCore net trace (record state { hands = set state.hands s None })
free_keeps net trace state s hand core is empty = record {
  logs = core.logs;
  hands = length-set state.hands s None ∙ core.hands;
  facts =
      keeps_freeing net trace (log_of state) (hand_of state)
      (λ k. get_or (set state.hands s None) k None) state.rest
      (count_entries state.logs) s core.facts
      (ap deliveries_in is ∙ empty)
      (get_or-set_same state.hands s None None (hand_inside state s hand is))
      (λ k other. get_or-set_other state.hands s k None None other);
}

-- ---- a step that is taken

pub some_when : {X : Type 0} (b : Bool) (x y : X) → then_some b x ≡ Some y → (b ≡ true) × (x ≡ y)
some_when true x y e = (refl, same_Some x y e)
some_when false x y e = absurd (none-some y e)

land_by_hand : (net : Network) (trace : List TraceItem) (state next : CoreState) (s : ℕ)
    (h : Option Hand) → Known → IsCore net trace state → hand_of state s ≡ h
    → land state s h ≡ Some next → IsCore net trace next
land_by_hand net trace state next s None known core is e = absurd (none-some next e)
land_by_hand net trace state next s (Some hand) known core is e = cases hand.deliveries refl e
  where
    cases : (ds : List Owed) → hand.deliveries ≡ ds → landed state s hand.stamp ds ≡ Some next
        → IsCore net trace next
    cases [] has e = absurd (none-some next e)
    cases (d ∷ ds) has e =
        let both =
        some_when (may_land (log_of state d.to) hand.stamp)
        (record state {
          logs = with_entry state d.to (landing (log_of state d.to) hand.stamp d);
          hands = set state.hands s
              (Some (record { stamp = hand.stamp; deliveries = ds }));
        }) next e in
        subst (IsCore net trace) both.1
        (land_keeps net trace state s hand d ds known core is has both.0)

free_by_hand : (net : Network) (trace : List TraceItem) (state next : CoreState) (s : ℕ)
    (h : Option Hand) → IsCore net trace state → hand_of state s ≡ h → free state s h ≡ Some next
    → IsCore net trace next
free_by_hand net trace state next s None core is e = absurd (none-some next e)
free_by_hand net trace state next s (Some hand) core is e = cases hand.deliveries refl e
  where
    cases : (ds : List Owed) → hand.deliveries ≡ ds → freed state s ds ≡ Some next
        → IsCore net trace next
    cases [] has e =
        subst (IsCore net trace)
        (same_Some (record state { hands = set state.hands s None }) next e)
        (free_keeps net trace state s hand core is has)
    cases (d ∷ ds) has e = absurd (none-some next e)

feed_by_rest : (net : Network) (trace : List TraceItem) (state next : CoreState) (ds : List Owed)
    → Known → IsCore net trace state → state.rest ≡ ds → fed state ds ≡ Some next
    → IsCore net trace next
feed_by_rest net trace state next [] known core has e = absurd (none-some next e)
feed_by_rest net trace state next (d ∷ ds) known core has e =
    let both =
    some_when (may_land (log_of state d.to) 0)
    (record state
    { logs = with_entry state d.to (landing (log_of state d.to) 0 d); rest = ds }) next e in
    subst (IsCore net trace) both.1 (feed_keeps net trace state d ds known core has both.0)

pub step_keeps : (net : Network) (trace : List TraceItem) (state next : CoreState) (step : CoreStep)
    → Known → IsCore net trace state → take_step net state step ≡ Some next → IsCore net trace next
step_keeps net trace state next (React m) known core e =
    let both =
    some_when (may_react m (log_of state m) (hand_of state m)) (reacted net state m) next e in
    subst (IsCore net trace) both.1 (react_keeps net trace state m known core both.0)
step_keeps net trace state next (Land s) known core e =
    land_by_hand net trace state next s (hand_of state s) known core refl e
step_keeps net trace state next (Free s) known core e =
    free_by_hand net trace state next s (hand_of state s) core refl e
step_keeps net trace state next Feed known core e =
    feed_by_rest net trace state next state.rest known core refl e

-- ---- any steps

step_or_same : (net : Network) (trace : List TraceItem) (state : CoreState) (step : CoreStep)
    → Known → IsCore net trace state → (o : Option CoreState) → take_step net state step ≡ o
    → IsCore net trace (unwrap_or o state)
step_or_same net trace state step known core None e = core
step_or_same net trace state step known core (Some next) e =
    step_keeps net trace state next step known core e

pub run_is_core : (net : Network) (trace : List TraceItem) (state : CoreState)
    (steps : List CoreStep) → Known → IsCore net trace state
    → IsCore net trace (run_steps net state steps)
run_is_core net trace state [] known core = core
run_is_core net trace state (step ∷ steps) known core =
    run_is_core net trace (unwrap_or (take_step net state step) state) steps known
    (step_or_same net trace state step known core (take_step net state step) refl)

pub core_runs_well : (net : Network) (trace : List TraceItem) (state : CoreState) → Known
    → IsCore net trace state → RunsWell net trace state
core_runs_well net trace state known core =
    record {
      legal = merged_is_legal net trace state known core;
      least_stamps =
          merged_is_least net trace state known core;
      on_the_way =
          core.facts.on_the_way;
      within = core.facts.within;
    }
