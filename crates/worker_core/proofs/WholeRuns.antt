-- A core that is left to itself.
use Rattle.std.specs.Prelude.{◌≡◌, ℕ, zero, suc, ◌+◌, ◌*◌, ◌<◌, ◌≤◌, Bool, true, false, cond, ◌&&◌, nat_lt, is_none, List, [], ◌∷◌, ◌++◌, length, set, replicate, Option, Some, None, unwrap_or, Result, Ok, Err, IfOk}
use Rattle.std.specs.List.{list_all}
use Rattle.std.proofs.Common.{refl, sym, ap, ◌∙◌, subst, inl, inr, arith}
use Rattle.std.proofs.lemmas.Option.{same_Some, none-some}
use Rattle.std.proofs.lemmas.Bool.{and_parts}
use Rattle.transition_table.specs.declared.decl.Party.TheVariants.{Env}
use Rattle.transition_table.specs.declared.network.Network.{Network}
use Rattle.journals.specs.declared.entry.Entry.{Entry}
use Rattle.journals.specs.declared.entry.Owed.{Owed}
use Rattle.journals.specs.declared.entry.TraceItem.{TraceItem}
use Rattle.journals.specs.Journals.{IsTrace, is_woken}
use Rattle.journals.specs.Legality.{Complete}
use Rattle.worker_core.specs.declared.state.Hand.{Hand}
use Rattle.journals.specs.declared.stamped.CoreStep.{CoreStep}
use Rattle.journals.specs.declared.stamped.CoreStep.TheVariants.{React, Land, Free, Feed}
use Rattle.worker_core.specs.Cores.{CoreState, log_of, hand_of, with_entry, may_react, may_land, reacting, reacted, landing, landed, land, freed, free, fed, take_step, run_steps, at_start}
use Rattle.journals.specs.Logs.{entries, clock, max_stamp}
use Rattle.worker_core.specs.CoreLaws.{StartIsCore, StoppedIsComplete}
use Rattle.worker_core.specs.Facts.{IsCore, count_entries, is_due}
use Rattle.worker_core.specs.inner.Facts.{count_busy}
use Rattle.worker_core.specs.Merges.{merged}
use Rattle.worker_core.specs.Running.{CoreMoment}
use Rattle.worker_core.specs.Turns.{IsWhole, IsRun}
use Rattle.worker_core.specs.inner.Turns.{Took, IsStopped, adds_entry}
use Rattle.worker_core.proofs.StoppedIsComplete.{length_merged}
use Rattle.worker_core.proofs.StepGains.{step_gains, due_inside}
use Rattle.worker_core.proofs.OneEntryMore.{count_more}
use Rattle.worker_core.proofs.FactsAfterLanding.{due_within}
use Rattle.worker_core.proofs.IsCore.{woken_inside, some_when, no_entries}
use Rattle.worker_core.proofs.AtStart.{run_steps_push}

-- ---- the entries after a step

abbrev Counts : CoreState → CoreState → CoreStep → Type 0
Counts state next step =
    count_entries next.logs ≡ count_entries state.logs + cond (adds_entry step) 1 0

land_counts : (net : Network) (trace : List TraceItem) (state next : CoreState) (s : ℕ)
    (h : Option Hand) → IsCore net trace state → hand_of state s ≡ h → land state s h ≡ Some next
    → Counts state next (Land s)
land_counts net trace state next s None core is e = absurd (none-some next e)
land_counts net trace state next s (Some hand) core is e = cases hand.deliveries refl e
  where
    cases : (ds : List Owed) → hand.deliveries ≡ ds → landed state s hand.stamp ds ≡ Some next
        → count_entries next.logs ≡ count_entries state.logs + 1
    cases [] has e = absurd (none-some next e)
    cases (d ∷ ds) has e =
        let both =
        some_when (may_land (log_of state d.to) hand.stamp)
        (record state {
          logs = with_entry state d.to (landing (log_of state d.to) hand.stamp d);
          hands = set state.hands s
              (Some (record { stamp = hand.stamp; deliveries = ds }));
        }) next e in
        sym (ap (λ (x : CoreState). count_entries x.logs) both.1)
        ∙ count_more state.logs d.to (landing (log_of state d.to) hand.stamp d)
        (due_inside net trace state s hand d ds core is has)

free_counts : (state next : CoreState) (s : ℕ) (h : Option Hand) → free state s h ≡ Some next
    → Counts state next (Free s)
free_counts state next s None e = absurd (none-some next e)
free_counts state next s (Some hand) e = cases hand.deliveries e
  where
    same : (n m : ℕ) → n ≡ m → m ≡ n + 0
    same n m e = omega arith

    cases : (ds : List Owed) → freed state s ds ≡ Some next
        → count_entries next.logs ≡ count_entries state.logs + 0
    cases [] e =
        same (count_entries state.logs) (count_entries next.logs)
        (ap (λ (x : CoreState). count_entries x.logs)
        (same_Some (record state { hands = set state.hands s None }) next e))
    cases (d ∷ ds) e = absurd (none-some next e)

feed_counts : (net : Network) (trace : List TraceItem) (state next : CoreState) (ds : List Owed)
    → IsCore net trace state → state.rest ≡ ds → fed state ds ≡ Some next → Counts state next Feed
feed_counts net trace state next [] core has e = absurd (none-some next e)
feed_counts net trace state next (d ∷ ds) core has e =
    let both =
    some_when (may_land (log_of state d.to) 0)
    (record state
    { logs = with_entry state d.to (landing (log_of state d.to) 0 d); rest = ds }) next e in
    let below =
    due_within net Env d
    (and_parts (is_due net Env d) (list_all (is_due net Env) ds)
    (sym (ap (list_all (is_due net Env)) has) ∙ core.facts.due Env)).0 in
    let many = core.logs in
    sym (ap (λ (x : CoreState). count_entries x.logs) both.1)
    ∙ count_more state.logs d.to (landing (log_of state d.to) 0 d) (omega arith)

pub step_counts : (net : Network) (trace : List TraceItem) (state next : CoreState)
    (step : CoreStep) → IsCore net trace state → take_step net state step ≡ Some next
    → Counts state next step
step_counts net trace state next (React m) core e =
    let both =
    some_when (may_react m (log_of state m) (hand_of state m)) (reacted net state m) next e in
    let idle : Bool = is_none (hand_of state m) in
    let woken : Bool = is_woken (entries (log_of state m)) m in
    let inside : m < length state.logs =
    woken_inside state m
    (and_parts idle woken
    (and_parts (idle && woken) (nat_lt (clock (log_of state m)) max_stamp) both.0).0).1 in
    sym (ap (λ (x : CoreState). count_entries x.logs) both.1)
    ∙ count_more state.logs m (reacting net m (log_of state m)) inside
step_counts net trace state next (Land s) core e =
    land_counts net trace state next s (hand_of state s) core refl e
step_counts net trace state next (Free s) core e = free_counts state next s (hand_of state s) e
step_counts net trace state next Feed core e =
    feed_counts net trace state next state.rest core refl e

-- ---- a turn

-- what is true of a core left to itself after k turns
pub record IsAlone (net : Network) (trace : List TraceItem) (core : CoreMoment)
    (made k : ℕ) : Type 0 where
  pub net_is : core.net ≡ net
  pub trace_is : core.trace ≡ trace
  pub is_core : IsCore net trace core.state
  pub made_are : made ≡ count_entries core.state.logs
  pub gain : k + count_busy core.state.hands ≤ 2 * made
  pub steps : List CoreStep
  pub state_is : core.state ≡ run_steps net (at_start net trace) steps

pub turn_gains : (net : Network) (trace : List TraceItem) (old new : CoreMoment) (step : CoreStep)
    (made k added : ℕ)
    → ((state next : CoreState) (step : CoreStep) → IsCore net trace state
    → take_step net state step ≡ Some next → IsCore net trace next)
    → IsAlone net trace old made k
    → Took old new (Some step)
    → added ≡ cond (adds_entry step) 1 0
    → IsAlone net trace new (made + added) (k + 1)
turn_gains net trace old new step made k added keeps alone took is =
    let taken : take_step net old.state step ≡ Some new.state =
    sym (ap (λ n. take_step n old.state step) alone.net_is) ∙ took.0 in
    let more = step_counts net trace old.state new.state step alone.is_core taken in
    let gains = step_gains net trace old.state new.state step alone.is_core taken in
    let were = alone.made_are in
    let gained = alone.gain in
    record {
      net_is = ap (λ (v : CoreMoment). v.net) took.1 ∙ alone.net_is;
      trace_is = ap (λ (v : CoreMoment). v.trace) took.1 ∙ alone.trace_is;
      is_core = keeps old.state new.state step alone.is_core taken;
      made_are = omega arith;
      gain = omega arith;
      steps = alone.steps ++ step ∷ [];
      state_is = sym
          (run_steps_push net (at_start net trace) alone.steps step
          ∙ ap (λ (s : CoreState). unwrap_or (take_step net s step) s) (sym alone.state_is)
          ∙ ap (λ (o : Option CoreState). unwrap_or o old.state) taken);
    }

-- ---- the end

pub if_ok_then : {X E : Type 0} (r : Result X E) (P Q : X → Type 0) → IfOk r P
    → ((x : X) → P x → Q x) → IfOk r Q
if_ok_then (Ok x) P Q h f = f x h
if_ok_then (Err e) P Q h f = tt

pub run_merges : (net : Network) (trace : List TraceItem) (core : CoreMoment) (made k : ℕ)
    (journal : List Entry) → IsAlone net trace core made k → journal ≡ merged core.state.logs
    → IsRun net trace journal
run_merges net trace core made k journal alone is = record {
  steps = alone.steps;
  merges = is ∙ ap (λ (s : CoreState). merged s.logs) alone.state_is;
}

pub whole_by_count : (net : Network) (trace : List TraceItem) (core : CoreMoment) (made k count : ℕ)
    (journal : List Entry) → IsAlone net trace core made k → made ≡ count
    → journal ≡ merged core.state.logs → IsWhole net trace count journal
whole_by_count net trace core made k count journal alone all is =
    inl (ap length is ∙ length_merged core.state.logs ∙ sym alone.made_are ∙ all)

pub whole_by_stop : (net : Network) (trace : List TraceItem) (core : CoreMoment) (made k count : ℕ)
    (journal : List Entry) → StoppedIsComplete → IsAlone net trace core made k → made < count
    → count ≤ 60000 → IsStopped core → journal ≡ merged core.state.logs
    → IsWhole net trace count journal
whole_by_stop net trace core made k count journal complete alone fewer small stopped is =
    let many : length journal ≡ made =
    ap length is ∙ length_merged core.state.logs ∙ sym alone.made_are in
    let were = alone.made_are in
    inr (
      omega arith,
      subst (Complete net trace) (sym is)
          (complete net trace core.state alone.is_core (omega arith)
          (λ step. sym (ap (λ n. take_step n core.state step) alone.net_is) ∙ stopped step)),
    )

-- ---- the start

none_are_busy : (n : ℕ) → count_busy (replicate n None) ≡ 0
none_are_busy zero = refl
none_are_busy (suc n) = let rest = none_are_busy n in omega arith

pub alone_first : (net : Network) (trace : List TraceItem) (core : CoreMoment) → StartIsCore
    → IsTrace net trace → core ≡ record { net = net; trace = trace; state = at_start net trace }
    → IsAlone net trace core 0 0
alone_first net trace core start fits is =
    let none : count_busy core.state.hands ≡ 0 =
    ap (λ (v : CoreMoment). count_busy v.state.hands) is ∙ none_are_busy (length net.machines) in
    record {
      net_is = ap (λ (v : CoreMoment). v.net) is;
      trace_is = ap (λ (v : CoreMoment). v.trace) is;
      is_core = subst (λ (v : CoreMoment). IsCore net trace v.state) (sym is)
          (start net trace fits);
      made_are = sym
          (ap (λ (v : CoreMoment). count_entries v.state.logs) is
          ∙ ap length (no_entries (length net.machines)));
      gain = omega arith;
      steps = [];
      state_is = ap (λ (v : CoreMoment). v.state) is;
    }

pub at_most : (made added count : ℕ) (step : CoreStep) → made ≤ count → (made ≡ count → ⊥)
    → added ≡ cond (adds_entry step) 1 0 → made + added ≤ count
at_most made added count step few other is = let one = one_at_most (adds_entry step) in omega arith
  where
    one_at_most : (b : Bool) → cond b 1 0 ≤ 1
    one_at_most true = omega arith
    one_at_most false = omega arith
