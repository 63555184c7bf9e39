-- Each step gains.
use Rattle.std.specs.Prelude.{◌≡◌, ℕ, ◌+◌, ◌*◌, ◌<◌, ◌≤◌, Bool, true, cond, ◌&&◌, nat_lt, is_none, is_some, List, [], ◌∷◌, set, get_or, length, Option, Some, None}
use Rattle.std.specs.List.{list_all}
use Rattle.std.proofs.Common.{refl, sym, ap, ◌∙◌, subst, arith}
use Rattle.std.proofs.lemmas.List.Sums.{sum_by-set}
use Rattle.std.proofs.lemmas.Option.{same_Some, none-some}
use Rattle.std.proofs.lemmas.Bool.{and_parts}
use Rattle.transition_table.specs.declared.decl.Party.TheVariants.{Env, Machine as Sender}
use Rattle.transition_table.specs.declared.network.Network.{Network}
use Rattle.journals.specs.declared.stamped.Stamped.{Stamped}
use Rattle.journals.specs.declared.entry.Owed.{Owed}
use Rattle.journals.specs.declared.entry.TraceItem.{TraceItem}
use Rattle.journals.specs.Journals.{is_woken}
use Rattle.worker_core.specs.declared.state.Hand.{Hand}
use Rattle.journals.specs.declared.stamped.CoreStep.{CoreStep}
use Rattle.journals.specs.declared.stamped.CoreStep.TheVariants.{React, Land, Free, Feed}
use Rattle.worker_core.specs.Cores.{CoreState, log_of, hand_of, hand_after, with_entry, may_react, may_land, reacting, reacted, landing, landed, land, freed, free, fed, take_step}
use Rattle.journals.specs.Logs.{entries, clock, max_stamp}
use Rattle.worker_core.specs.Facts.{IsCore, count_entries, deliveries_in, is_due}
use Rattle.worker_core.specs.inner.Facts.{count_busy}
use Rattle.worker_core.proofs.OneEntryMore.{count_more}
use Rattle.worker_core.proofs.FactsAfterLanding.{due_within}
use Rattle.worker_core.proofs.IsCore.{is_none_at, woken_inside, hand_inside, some_when}
use Rattle.polis_base.proofs.Bools.{one_if_at_most_one}

abbrev Gains : CoreState → CoreState → Type 0
Gains state next =
    1 + 2 * count_entries state.logs + count_busy next.hands
    ≤ 2 * count_entries next.logs + count_busy state.hands

-- one hand in the place of another
busy_set : (hands : List (Option Hand)) (m : ℕ) (h old : Option Hand) → m < length hands
    → get_or hands m None ≡ old
    → count_busy (set hands m h) + cond (is_some old) 1 0 ≡ count_busy hands + cond (is_some h) 1 0
busy_set hands m h old below is =
    sym (ap (λ o. count_busy (set hands m h) + cond (is_some o) 1 0) is)
    ∙ sum_by-set (λ (o : Option Hand). cond (is_some o) 1 0) hands m h None below

react_gains : (net : Network) (trace : List TraceItem) (state : CoreState) (m : ℕ)
    → IsCore net trace state → may_react m (log_of state m) (hand_of state m) ≡ true
    → Gains state (reacted net state m)
react_gains net trace state m core may =
    let idle : Bool = is_none (hand_of state m) in
    let woken : Bool = is_woken (entries (log_of state m)) m in
    let both =
    and_parts idle woken
    (and_parts (idle && woken) (nat_lt (clock (log_of state m)) max_stamp) may).0 in
    let inside : m < length state.logs = woken_inside state m both.1 in
    let many = core.logs in
    let busy = core.hands in
    let held : m < length state.hands = omega arith in
    let x : Stamped = reacting net m (log_of state m) in
    let hand : Option Hand = hand_after net x in
    let more = count_more state.logs m x inside in
    let count = busy_set state.hands m hand None held (is_none_at (hand_of state m) both.0) in
    let one = one_if_at_most_one (is_some hand) in
    omega arith

pub due_inside : (net : Network) (trace : List TraceItem) (state : CoreState) (s : ℕ) (hand : Hand)
    (d : Owed) (ds : List Owed) → IsCore net trace state → hand_of state s ≡ Some hand
    → hand.deliveries ≡ d ∷ ds → d.to < length state.logs
due_inside net trace state s hand d ds core is has =
    let held : deliveries_in (hand_of state s) ≡ d ∷ ds = ap deliveries_in is ∙ has in
    let below =
    due_within net (Sender s) d
    (and_parts (is_due net (Sender s) d) (list_all (is_due net (Sender s)) ds)
    (sym (ap (list_all (is_due net (Sender s))) held) ∙ core.facts.due (Sender s))).0 in
    let many = core.logs in
    omega arith

land_gains : (net : Network) (trace : List TraceItem) (state next : CoreState) (s : ℕ)
    (h : Option Hand) → IsCore net trace state → hand_of state s ≡ h → land state s h ≡ Some next
    → Gains state next
land_gains net trace state next s None core is e = absurd (none-some next e)
land_gains net trace state next s (Some hand) core is e = cases hand.deliveries refl e
  where
    cases : (ds : List Owed) → hand.deliveries ≡ ds → landed state s hand.stamp ds ≡ Some next
        → Gains state next
    cases [] has e = absurd (none-some next e)
    cases (d ∷ ds) has e =
        let left : Option Hand = Some (record { stamp = hand.stamp; deliveries = ds }) in
        let both =
        some_when (may_land (log_of state d.to) hand.stamp)
        (record state {
          logs = with_entry state d.to (landing (log_of state d.to) hand.stamp d);
          hands = set state.hands s left;
        }) next e in
        let more =
        count_more state.logs d.to (landing (log_of state d.to) hand.stamp d)
        (due_inside net trace state s hand d ds core is has) in
        let count = busy_set state.hands s left (Some hand) (hand_inside state s hand is) is in
        subst (Gains state) both.1 (omega arith)

free_gains : (net : Network) (trace : List TraceItem) (state next : CoreState) (s : ℕ)
    (h : Option Hand) → IsCore net trace state → hand_of state s ≡ h → free state s h ≡ Some next
    → Gains state next
free_gains net trace state next s None core is e = absurd (none-some next e)
free_gains net trace state next s (Some hand) core is e = cases hand.deliveries e
  where
    cases : (ds : List Owed) → freed state s ds ≡ Some next → Gains state next
    cases [] e =
        let count = busy_set state.hands s None (Some hand) (hand_inside state s hand is) is in
        subst (Gains state) (same_Some (record state { hands = set state.hands s None }) next e)
        (omega arith)
    cases (d ∷ ds) e = absurd (none-some next e)

feed_gains : (net : Network) (trace : List TraceItem) (state next : CoreState) (ds : List Owed)
    → IsCore net trace state → state.rest ≡ ds → fed state ds ≡ Some next → Gains state next
feed_gains net trace state next [] core has e = absurd (none-some next e)
feed_gains net trace state next (d ∷ ds) core has e =
    let both =
    some_when (may_land (log_of state d.to) 0)
    (record state
    { logs = with_entry state d.to (landing (log_of state d.to) 0 d); rest = ds }) next e in
    let below =
    due_within net Env d
    (and_parts (is_due net Env d) (list_all (is_due net Env) ds)
    (sym (ap (list_all (is_due net Env)) has) ∙ core.facts.due Env)).0 in
    let many = core.logs in
    let more = count_more state.logs d.to (landing (log_of state d.to) 0 d) (omega arith) in
    subst (Gains state) both.1 (omega arith)

pub step_gains : (net : Network) (trace : List TraceItem) (state next : CoreState) (step : CoreStep)
    → IsCore net trace state → take_step net state step ≡ Some next → Gains state next
step_gains net trace state next (React m) core e =
    let both =
    some_when (may_react m (log_of state m) (hand_of state m)) (reacted net state m) next e in
    subst (Gains state) both.1 (react_gains net trace state m core both.0)
step_gains net trace state next (Land s) core e =
    land_gains net trace state next s (hand_of state s) core refl e
step_gains net trace state next (Free s) core e =
    free_gains net trace state next s (hand_of state s) core refl e
step_gains net trace state next Feed core e = feed_gains net trace state next state.rest core refl e
