-- The scheduler stops exactly where the journal is complete, and what it picks may follow.
use Rattle.std.specs.Prelude.{◌≡◌, ◌↔◌, ℕ, zero, suc, ◌+◌, ◌<◌, ◌≤◌, Bool, true, false, cond, ◌&&◌, ◌==◌, nat_lt, List, [], ◌∷◌, ◌++◌, map, filter, flat_map, length, drop, slice_get, Option, Some, None, option_map, unwrap_or}
use Rattle.std.specs.List.{list_all}
use Rattle.std.proofs.Common.{refl, sym, ap, ◌∙◌, subst, inl, inr, arith, length-append, length-drop}
use Rattle.std.proofs.lemmas.List.{append-nil, length-map, nil_from_length}
use Rattle.std.proofs.lemmas.List.Elements.{filter-append}
use Rattle.std.proofs.lemmas.Bool.{eqb-true, ltb-true, ltb-false, and_parts, and_from, cases_lt, cases_Bool}
use Rattle.std.proofs.lemmas.Option.{slice_get_past}
use Rattle.polis_base.specs.Lists.{Begins, head_of, upto}
use Rattle.polis_base.proofs.Lists.{none_below, all_below}
use Rattle.transition_table.specs.NetworkFacts.{has}
use Rattle.transition_table.specs.declared.decl.Party.{Party}
use Rattle.transition_table.specs.declared.decl.Party.TheVariants.{Env, Machine as Sender}
use Rattle.transition_table.specs.declared.machine.Machine.{Machine}
use Rattle.transition_table.specs.declared.network.Network.{Network}
use Rattle.journals.specs.declared.entry.Entry.{Entry}
use Rattle.journals.specs.declared.entry.Entry.TheVariants.{Dep, Rea}
use Rattle.journals.specs.declared.entry.Owed.{Owed}
use Rattle.journals.specs.declared.entry.Pick.TheVariants.{React, Stop}
use Rattle.journals.specs.declared.entry.TraceItem.{TraceItem}
use Rattle.journals.specs.Journals.{FitsNetwork, is_party, is_woken, is_firing_of, inputs_of, outputs_of, emitted, emissions, reads, delivered, sent}
use Rattle.journals.specs.Legality.{Legal, MayFollow, Complete}
use Rattle.journals.specs.Schedules.{OwesNothing, is_way, event_code, machine_deliveries, trace_deliveries, unmade, owed_by_machines, owed_by_env, priority_of, least_by, first_woken, first_pick, pick, IsPicked}
use Rattle.journals.proofs.Legal.{legal_step}
use Rattle.journals.proofs.DeliveredBeginsSent.{delivered_begins_sent, may_follow_next}
use Rattle.journals.proofs.DeliveriesOfWay.{filter_nothing, machine_ways, env_ways}
use Rattle.journals.proofs.OwedAfter.{owed_of_way}
use Rattle.journals.proofs.FirstOfWay.{first_of_machines_may_follow, first_of_env_may_follow}
use Rattle.polis_base.proofs.Places.{both_empty}

-- ---- lists

pub nil_from_head : {X : Type 0} (xs : List X) → head_of xs ≡ None → xs ≡ []
nil_from_head [] h = refl
nil_from_head (x ∷ xs) h = cc

begins_all : {X : Type 0} (xs ys : List X) → Begins xs ys → length ys ≤ length xs → xs ≡ ys
begins_all xs ys (rest, h) short =
    let long : length ys ≡ length xs + length rest = ap length h ∙ length-append xs rest in
    let none : rest ≡ [] = nil_from_length rest (omega arith) in
    sym (h ∙ ap (λ l. xs ++ l) none ∙ append-nil xs)

-- ---- who sends nothing

no_outputs : (net : Network) (s : ℕ) (journal : List Entry) → length net.machines ≤ s
    → flat_map (emissions net) (filter (is_firing_of s) journal) ≡ []
no_outputs net s [] h = refl
no_outputs net s (Dep from to e c ∷ journal) h = no_outputs net s journal h
no_outputs net s (Rea k x o ∷ journal) h =
    cases (k == s && o.fires) refl (no_outputs net s journal h)
  where
    cases : (b : Bool) → (k == s && o.fires) ≡ b
        → flat_map (emissions net) (filter (is_firing_of s) journal) ≡ []
        → flat_map (emissions net)
        (cond b (Rea k x o ∷ filter (is_firing_of s) journal) (filter (is_firing_of s) journal))
        ≡ []
    cases true is rest =
        let parts = and_parts (k == s) o.fires is in
        let past : slice_get net.machines k ≡ None =
        slice_get_past net.machines k (let same = eqb-true k s parts.0 in omega arith) in
        let none : outputs_of net k ≡ [] =
        ap (λ (o : Option Machine). unwrap_or (option_map (λ machine. machine.outputs) o) [])
        past in
        let nothing : emissions net (Rea k x o) ≡ [] =
        ap (λ b. cond b (emitted (outputs_of net k) o.outs) []) parts.1
        ∙ ap (λ l. emitted l o.outs) none in
        ap (λ l. l ++ flat_map (emissions net) (filter (is_firing_of s) journal)) nothing ∙ rest
    cases false is rest = rest

pub no_sender : (net : Network) (trace : List TraceItem) (s m : ℕ) (journal : List Entry)
    → length net.machines ≤ s → sent net trace (Sender s) m journal ≡ []
no_sender net trace s m journal h = ap (filter (λ p. reads net m p.0)) (no_outputs net s journal h)

no_reader_of : (net : Network) (m : ℕ) (ps : List (ℕ × ℕ)) → length net.machines ≤ m
    → filter (λ p. reads net m p.0) ps ≡ []
no_reader_of net m ps h =
    let none : inputs_of net m ≡ [] =
    ap (λ (o : Option Machine). unwrap_or (option_map (λ machine. machine.inputs) o) [])
    (slice_get_past net.machines m h) in
    ap (λ l. filter (λ (p : ℕ × ℕ). has l p.0) ps) none ∙ filter_nothing ps

pub no_reader : (net : Network) (trace : List TraceItem) (s : Party) (m : ℕ) (journal : List Entry)
    → length net.machines ≤ m → sent net trace s m journal ≡ []
no_reader net trace Env m journal h = no_reader_of net m _ h
no_reader net trace (Sender s) m journal h = no_reader_of net m _ h

-- ---- a complete journal owes nothing

no_next : (net : Network) (trace : List TraceItem) (journal : List Entry) (s : Party) (m : ℕ)
    → Complete net trace journal
    → slice_get (sent net trace s m journal) (length (delivered s m journal)) ≡ None
no_next net trace journal s m h =
    elim (cases_lt m (length net.machines)) [
      | inl below ↦ elim (cases_Bool (is_party net s)) [
        | inl party ↦
            let all = h.all_delivered s m party below in
            ap (λ l. slice_get (sent net trace s m journal) (length l)) all
            ∙ slice_get_past (sent net trace s m journal) (length (sent net trace s m journal))
            (omega arith)
        | inr nobody ↦ ap (λ l. slice_get l (length (delivered s m journal))) (stranger s nobody)
      ]
      | inr past ↦
          ap (λ l. slice_get l (length (delivered s m journal)))
          (no_reader net trace s m journal past)
    ]
  where
    stranger : (s : Party) → is_party net s ≡ false → sent net trace s m journal ≡ []
    stranger Env nobody = cc
    stranger (Sender k) nobody =
        no_sender net trace k m journal (ltb-false k (length net.machines) nobody)

pub complete_owes_nothing : (net : Network) (trace : List TraceItem) (journal : List Entry)
    (s : Party) (m e c : ℕ) → Legal net trace journal → Complete net trace journal
    → MayFollow net trace journal (Dep s m e c) → ⊥
complete_owes_nothing net trace journal s m e c legal complete may =
    let next =
    (may_follow_next net trace journal s m e c
    (delivered_begins_sent net trace s m journal legal)).0 may in
    let none = no_next net trace journal s m complete in
    cc

-- ---- what is least

some_either : (b : Bool) (k m : ℕ) → cond b (Some k) (Some m) ≡ None → ⊥
some_either true k m h = cc
some_either false k m h = cc

least_none : (priority : ℕ → ℕ) (ms : List ℕ) → least_by priority ms ≡ None → ms ≡ []
least_none priority [] h = refl
least_none priority (m ∷ ms) h =
    absurd (elim (least_by priority ms) as (λ (o : Option ℕ). least_by priority ms ≡ o → ⊥) [
      | None ↦ λ is. let g : Some m ≡ None = rw is at h in cc
      | Some k ↦ λ is. some_either (nat_lt (priority k) (priority m)) k m (rw is at h)
    ] refl)

pub least_passes : (p : ℕ → Bool) (priority : ℕ → ℕ) (ms : List ℕ) (m : ℕ) → list_all p ms ≡ true
    → least_by priority ms ≡ Some m → p m ≡ true
least_passes p priority [] m all h = cc
least_passes p priority (k ∷ ms) m all h =
    elim (least_by priority ms) as (λ (o : Option ℕ). least_by priority ms ≡ o → p m ≡ true) [
      | None ↦ λ is. let g : Some k ≡ Some m =
          rw is at h in subst (λ j. p j ≡ true) (same_some k m g) parts.0
      | Some j ↦ λ is.
          either (nat_lt (priority j) (priority k)) j (least_passes p priority ms j parts.1 is)
          (rw is at h)
    ] refl
  where
    parts : (p k ≡ true) × (list_all p ms ≡ true)
    parts = and_parts (p k) (list_all p ms) all

    same_some : (a b : ℕ) → Some a ≡ Some b → a ≡ b
    same_some a b e = cc

    either : (b : Bool) (j : ℕ) → p j ≡ true → cond b (Some j) (Some k) ≡ Some m → p m ≡ true
    either true j passed e = subst (λ i. p i ≡ true) (same_some j m e) passed
    either false j passed e = subst (λ i. p i ≡ true) (same_some k m e) parts.0

-- ---- who is woken

each_fails : (p : ℕ → Bool) (n m : ℕ) → filter p (upto n) ≡ [] → m < n → p m ≡ false
each_fails p zero m h below = absurd (omega arith)
each_fails p (suc n) m h below =
    let parts =
    both_empty (filter p (upto n)) (filter p (n ∷ []))
    (sym (filter-append p (upto n) (n ∷ [])) ∙ h) in
    elim (cases_lt m n) [
      | inl under ↦ each_fails p n m parts.0 under
      | inr over ↦ let same : n ≡ m =
          omega arith in subst (λ k. p k ≡ false) same (last (p n) parts.1)
    ]
  where
    last : (b : Bool) → cond b (n ∷ []) [] ≡ [] → b ≡ false
    last true e = cc
    last false e = refl

all_of_filter : (p q : ℕ → Bool) (ms : List ℕ) → list_all q ms ≡ true
    → list_all (λ m. p m && q m) (filter p ms) ≡ true
all_of_filter p q [] h = refl
all_of_filter p q (m ∷ ms) h = cases (p m) refl (all_of_filter p q ms parts.1)
  where
    parts : (q m ≡ true) × (list_all q ms ≡ true)
    parts = and_parts (q m) (list_all q ms) h

    cases : (b : Bool) → p m ≡ b → list_all (λ m. p m && q m) (filter p ms) ≡ true
        → list_all (λ m. p m && q m) (cond b (m ∷ filter p ms) (filter p ms)) ≡ true
    cases true is rest =
        and_from (p m && q m) (list_all (λ m. p m && q m) (filter p ms))
        (and_from (p m) (q m) is parts.0) rest
    cases false is rest = rest

-- the machine that reacts is one of the network, and woken
pub first_woken_is : (net : Network) (journal : List Entry) (m : ℕ)
    → first_woken net journal ≡ Some m → (is_woken journal m ≡ true) × (m < length net.machines)
first_woken_is net journal m h =
    let passed =
    least_passes (λ k. is_woken journal k && nat_lt k (length net.machines)) (priority_of net)
    (filter (is_woken journal) (upto (length net.machines))) m
    (all_of_filter (is_woken journal) (λ k. nat_lt k (length net.machines))
    (upto (length net.machines))
    (all_below (length net.machines) (length net.machines) (omega arith))) h in
    let parts = and_parts (is_woken journal m) (nat_lt m (length net.machines)) passed in
    (parts.0, ltb-true m (length net.machines) parts.1)

pub none_woken_is : (net : Network) (journal : List Entry) → first_woken net journal ≡ None
    → (m : ℕ) → m < length net.machines → is_woken journal m ≡ false
none_woken_is net journal h m below =
    each_fails (is_woken journal) (length net.machines) m
    (least_none (priority_of net) (filter (is_woken journal) (upto (length net.machines))) h) below

-- ---- the scheduler stops where the journal is complete

stop_parts : (a : Option Owed) (b : Option (Owed × Bool)) (c : Option ℕ) → first_pick a b c ≡ Stop
    → (a ≡ None) × (b ≡ None) × (c ≡ None)
stop_parts (Some d) b c h = cc
stop_parts None (Some (d, false)) c h = cc
stop_parts None (Some (d, true)) (Some m) h = cc
stop_parts None None (Some m) h = cc
stop_parts None (Some (d, true)) None h = cc
stop_parts None None None h = (refl, refl, refl)

all_of_way : {X : Type 0} (way : X → Owed) (net : Network) (trace : List TraceItem)
    (journal : List Entry) (s : Party) (m : ℕ) (xs : List X)
    → Legal net trace journal
    → map (λ x. event_code (way x)) (filter (λ x. is_way s m (way x)) xs)
    ≡ sent net trace s m journal
    → unmade way journal [] xs ≡ []
    → delivered s m journal ≡ sent net trace s m journal
all_of_way way net trace journal s m xs legal ways none =
    let left : drop (length (delivered s m journal)) (filter (λ x. is_way s m (way x)) xs) ≡ [] =
    sym (owed_of_way way s m journal xs) ∙ ap (filter (λ x. is_way s m (way x))) none in
    let nothing =
    sym (length-drop (length (delivered s m journal)) (filter (λ x. is_way s m (way x)) xs))
    ∙ ap length left in
    let long = ap length (sym ways)
    ∙ length-map (filter (λ x. is_way s m (way x)) xs) (λ x. event_code (way x)) in
    begins_all (delivered s m journal) (sent net trace s m journal)
    (delivered_begins_sent net trace s m journal legal) (omega arith)

pub owing_nothing_is_complete : (net : Network) (trace : List TraceItem) (journal : List Entry)
    → Legal net trace journal → OwesNothing net trace journal → Complete net trace journal
owing_nothing_is_complete net trace journal legal (machines, env, woken) =
    record {
      all_delivered = λ s m party below.
          delivered_by s m (nil_from_head (owed_by_machines net journal) machines)
          (nil_from_head (owed_by_env net trace journal) env);
      none_woken = woken;
    }
  where
    delivered_by : (s : Party) (m : ℕ) → owed_by_machines net journal ≡ []
        → owed_by_env net trace journal ≡ [] → delivered s m journal ≡ sent net trace s m journal
    delivered_by Env m machines env =
        all_of_way (λ (p : Owed × Bool). p.0) net trace journal Env m
        (trace_deliveries net false trace) legal (env_ways net trace m journal) env
    delivered_by (Sender k) m machines env =
        all_of_way (λ d. d) net trace journal (Sender k) m (machine_deliveries net journal) legal
        (machine_ways net trace k m journal) machines

pub complete_is_owing_nothing : (net : Network) (trace : List TraceItem) (journal : List Entry)
    → Legal net trace journal → Complete net trace journal → OwesNothing net trace journal
complete_is_owing_nothing net trace journal legal complete = (machines, env, complete.none_woken)
  where
    machines : head_of (owed_by_machines net journal) ≡ None
    machines =
        elim
        (head_of (owed_by_machines net journal)) as (λ (o : Option Owed). head_of
        (owed_by_machines net journal) ≡ o → o ≡ None) [
          | None ↦ λ is. refl
          | Some d ↦ λ is.
              absurd
              (complete_owes_nothing net trace journal d.from d.to d.event d.code legal complete
              (first_of_machines_may_follow net trace journal d legal is))
        ] refl

    env : head_of (owed_by_env net trace journal) ≡ None
    env =
        elim
        (head_of (owed_by_env net trace journal)) as (λ (o : Option (Owed × Bool)). head_of
        (owed_by_env net trace journal) ≡ o → o ≡ None) [
          | None ↦ λ is. refl
          | Some p ↦ λ is.
              absurd
              (complete_owes_nothing net trace journal (p.0).from (p.0).to (p.0).event
              (p.0).code legal complete (first_of_env_may_follow net trace journal p legal is))
        ] refl

stopped_is_complete : (net : Network) (trace : List TraceItem) (journal : List Entry)
    → Legal net trace journal → pick net trace journal ≡ Stop → Complete net trace journal
stopped_is_complete net trace journal legal h =
    let parts =
    stop_parts (head_of (owed_by_machines net journal)) (head_of (owed_by_env net trace journal))
    (first_woken net journal) h in
    owing_nothing_is_complete net trace journal legal
    (parts.0, parts.1, none_woken_is net journal parts.2)

complete_is_stopped : (net : Network) (trace : List TraceItem) (journal : List Entry)
    → Legal net trace journal → Complete net trace journal → pick net trace journal ≡ Stop
complete_is_stopped net trace journal legal complete =
    let parts = complete_is_owing_nothing net trace journal legal complete in
    let woken : first_woken net journal ≡ None =
    ap (least_by (priority_of net)) (none_below (is_woken journal) (length net.machines) parts.2) in
    ap (λ (a : Option Owed). first_pick a (head_of (owed_by_env net trace journal))
    (first_woken net journal)) parts.0
    ∙ ap (λ (b : Option (Owed × Bool)). first_pick None b (first_woken net journal)) parts.1
    ∙ ap (λ (c : Option ℕ). first_pick None None c) woken

pub stops_where_complete : (net : Network) (trace : List TraceItem) (journal : List Entry)
    → Legal net trace journal → (pick net trace journal ≡ Stop) ↔ Complete net trace journal
stops_where_complete net trace journal legal =
    (stopped_is_complete net trace journal legal, complete_is_stopped net trace journal legal)

-- ---- what is picked may follow

reaction_may_follow : (net : Network) (trace : List TraceItem) (journal : List Entry) (m : ℕ)
    (entry : Entry) → first_woken net journal ≡ Some m → IsPicked net journal (React m) entry
    → MayFollow net trace journal entry
reaction_may_follow net trace journal m entry first (o, is, transition) =
    subst (MayFollow net trace journal) (sym is)
    ((first_woken_is net journal m first).0, refl, transition)

picked_by_parts : (net : Network) (trace : List TraceItem) (journal : List Entry) (entry : Entry)
    (a : Option Owed) (b : Option (Owed × Bool)) (c : Option ℕ)
    → Legal net trace journal
    → head_of (owed_by_machines net journal) ≡ a
    → head_of (owed_by_env net trace journal) ≡ b
    → first_woken net journal ≡ c
    → IsPicked net journal (first_pick a b c) entry
    → MayFollow net trace journal entry
picked_by_parts net trace journal entry (Some d) b c legal machines env woken is =
    subst (MayFollow net trace journal) (sym is)
    (first_of_machines_may_follow net trace journal d legal machines)
picked_by_parts net trace journal entry None (Some (d, false)) c legal machines env woken is =
    subst (MayFollow net trace journal) (sym is)
    (first_of_env_may_follow net trace journal (d, false) legal env)
picked_by_parts net trace journal entry None (Some (d, true)) (Some m) legal machines env woken is =
    reaction_may_follow net trace journal m entry woken is
picked_by_parts net trace journal entry None None (Some m) legal machines env woken is =
    reaction_may_follow net trace journal m entry woken is
picked_by_parts net trace journal entry None (Some (d, true)) None legal machines env woken is =
    subst (MayFollow net trace journal) (sym is)
    (first_of_env_may_follow net trace journal (d, true) legal env)
picked_by_parts net trace journal entry None None None legal machines env woken is = absurd is

pub picked_may_follow : (net : Network) (trace : List TraceItem) (journal : List Entry)
    (entry : Entry) → Legal net trace journal → IsPicked net journal (pick net trace journal) entry
    → MayFollow net trace journal entry
picked_may_follow net trace journal entry legal is =
    picked_by_parts net trace journal entry (head_of (owed_by_machines net journal))
    (head_of (owed_by_env net trace journal)) (first_woken net journal) legal refl refl refl is

pub picked_is_legal : (net : Network) (trace : List TraceItem) (journal : List Entry)
    (entry : Entry) → Legal net trace journal → IsPicked net journal (pick net trace journal) entry
    → FitsNetwork net entry → Legal net trace (journal ++ entry ∷ [])
picked_is_legal net trace journal entry legal is fits =
    legal_step net trace journal entry legal fits
    (picked_may_follow net trace journal entry legal is)
