-- A step on the machines that it touches.
use Rattle.std.specs.Prelude.{◌≡◌, ℕ, ◌<◌, Bool, true, ◌&&◌, nat_lt, is_none, List, [], ◌∷◌, ◌++◌, set, length, Option, Some, None}
use Rattle.std.proofs.Common.{refl, ◌∙◌, subst, arith}
use Rattle.std.proofs.lemmas.List.{get_or-set_same, get_or-set_other}
use Rattle.std.proofs.lemmas.Option.{same_Some, none-some}
use Rattle.std.proofs.lemmas.Bool.{and_parts}
use Rattle.transition_table.specs.declared.network.Network.{Network}
use Rattle.journals.specs.declared.entry.Owed.{Owed}
use Rattle.journals.specs.declared.entry.TraceItem.{TraceItem}
use Rattle.journals.specs.declared.stamped.Stamped.{Stamped}
use Rattle.journals.specs.Journals.{is_woken}
use Rattle.journals.specs.Logs.{entries, clock, max_stamp}
use Rattle.worker_core.specs.declared.state.Hand.{Hand}
use Rattle.worker_core.specs.ByMachine.{ReactsAlone, LandsAlone, FreesAlone, ReactsByMachine, LandsByMachine, FreesByMachine}
use Rattle.worker_core.specs.Cores.{CoreState, log_of, hand_of, may_react, reacting, reacted, hand_after, may_land, landing, with_entry, landed, land, freed, free}
use Rattle.worker_core.specs.Facts.{IsCore}
use Rattle.worker_core.proofs.StepGains.{due_inside}
use Rattle.worker_core.proofs.IsCore.{woken_inside, hand_inside, some_when}

reacts_alone : (net : Network) (trace : List TraceItem) (state : CoreState) (m : ℕ)
    → IsCore net trace state → may_react m (log_of state m) (hand_of state m) ≡ true
    → ReactsAlone net state (reacted net state m) m
reacts_alone net trace state m core may =
    let idle : Bool = is_none (hand_of state m) in
    let woken : Bool = is_woken (entries (log_of state m)) m in
    let x : Stamped = reacting net m (log_of state m) in
    let inside : m < length state.logs =
    woken_inside state m
    (and_parts idle woken
    (and_parts (idle && woken) (nat_lt (clock (log_of state m)) max_stamp) may).0).1 in
    let many = core.logs in
    let busy = core.hands in
    record {
      may = may;
      log = get_or-set_same state.logs m (log_of state m ++ x ∷ []) [] inside;
      hand = get_or-set_same state.hands m (hand_after net x) None (omega arith);
      other_logs = λ k other. get_or-set_other state.logs m k (log_of state m ++ x ∷ []) [] other;
      other_hands = λ k other. get_or-set_other state.hands m k (hand_after net x) None other;
      rest = refl;
    }

pub reacts_by_machine : ReactsByMachine
reacts_by_machine net trace state next m core e =
    let both =
    some_when (may_react m (log_of state m) (hand_of state m)) (reacted net state m) next e in
    subst (λ n. ReactsAlone net state n m) both.1 (reacts_alone net trace state m core both.0)

lands_alone : (net : Network) (trace : List TraceItem) (state : CoreState) (s : ℕ) (hand : Hand)
    (d : Owed) (ds : List Owed) → IsCore net trace state → hand_of state s ≡ Some hand
    → hand.deliveries ≡ d ∷ ds → may_land (log_of state d.to) hand.stamp ≡ true
    → LandsAlone state
    (record state {
      logs = with_entry state d.to (landing (log_of state d.to) hand.stamp d);
      hands = set state.hands s (Some (record { stamp = hand.stamp; deliveries = ds }));
    }) s
lands_alone net trace state s hand d ds core is has may =
    let x : Stamped = landing (log_of state d.to) hand.stamp d in
    let left : Hand = record { stamp = hand.stamp; deliveries = ds } in
    record {
      first = d;
      left = left;
      held = is ∙ (λ i. Some (record { stamp = hand.stamp; deliveries = has i }));
      may = may;
      log = get_or-set_same state.logs d.to (log_of state d.to ++ x ∷ []) []
          (due_inside net trace state s hand d ds core is has);
      hand = get_or-set_same state.hands s (Some left) None (hand_inside state s hand is);
      other_logs =
          λ k other. get_or-set_other state.logs d.to k (log_of state d.to ++ x ∷ []) [] other;
      other_hands = λ k other. get_or-set_other state.hands s k (Some left) None other;
      rest = refl;
    }

lands_by_hand : (net : Network) (trace : List TraceItem) (state next : CoreState) (s : ℕ)
    (h : Option Hand) → IsCore net trace state → hand_of state s ≡ h → land state s h ≡ Some next
    → LandsAlone state next s
lands_by_hand net trace state next s None core is e = absurd (none-some next e)
lands_by_hand net trace state next s (Some hand) core is e = cases hand.deliveries refl e
  where
    cases : (ds : List Owed) → hand.deliveries ≡ ds → landed state s hand.stamp ds ≡ Some next
        → LandsAlone state next s
    cases [] has e = absurd (none-some next e)
    cases (d ∷ ds) has e =
        let both =
        some_when (may_land (log_of state d.to) hand.stamp)
        (record state {
          logs = with_entry state d.to (landing (log_of state d.to) hand.stamp d);
          hands = set state.hands s
              (Some (record { stamp = hand.stamp; deliveries = ds }));
        }) next e in
        subst (λ n. LandsAlone state n s) both.1
        (lands_alone net trace state s hand d ds core is has both.0)

pub lands_by_machine : LandsByMachine
lands_by_machine net trace state next s core e =
    lands_by_hand net trace state next s (hand_of state s) core refl e

frees_by_hand : (state next : CoreState) (s : ℕ) (h : Option Hand) → hand_of state s ≡ h
    → free state s h ≡ Some next → FreesAlone state next s
frees_by_hand state next s None is e = absurd (none-some next e)
frees_by_hand state next s (Some hand) is e = cases hand.deliveries refl e
  where
    cases : (ds : List Owed) → hand.deliveries ≡ ds → freed state s ds ≡ Some next
        → FreesAlone state next s
    cases [] has e =
        subst (λ n. FreesAlone state n s)
        (same_Some (record state { hands = set state.hands s None }) next e) (record {
          stamp = hand.stamp;
          empty = is ∙ (λ i. Some (record { stamp = hand.stamp; deliveries = has i }));
          hand = get_or-set_same state.hands s None None (hand_inside state s hand is);
          logs = refl;
          other_hands = λ k other. get_or-set_other state.hands s k None None other;
          rest = refl;
        })
    cases (d ∷ ds) has e = absurd (none-some next e)

pub frees_by_machine : FreesByMachine
frees_by_machine net trace state next s core e = frees_by_hand state next s (hand_of state s) refl e
