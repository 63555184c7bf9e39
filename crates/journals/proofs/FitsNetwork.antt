-- What is owed fits the network.
use Rattle.std.specs.Prelude.{◌≡◌, ℕ, zero, suc, ◌+◌, Bool, true, false, cond, ◌&&◌, ◌==◌, nat_lt, nat_le, List, [], ◌∷◌, ◌++◌, map, flat_map, count_by, length, drop, slice_get, Option, Some, None, option_map, unwrap_or, IsSomeAnd}
use Rattle.std.specs.List.{list_all}
use Rattle.std.specs.Cmp.Lexicographic.{pointwise}
use Rattle.std.proofs.Common.{sym, refl, ap, ◌∙◌, subst, arith}
use Rattle.std.proofs.lemmas.List.{drop-drop}
use Rattle.std.proofs.lemmas.List.Folds.{list_all-append, list_all-map}
use Rattle.std.proofs.lemmas.Bool.{false≢true, ltb-true, le-leb, lt-ltb, and_parts, and_from}
use Rattle.std.proofs.lemmas.Bool.Decides.{Decides-eqb}
use Rattle.std.proofs.lemmas.Option.{slice_get_within}
use Rattle.std.proofs.lemmas.Slice.Eq.{slice_eq-Decides}
use Rattle.polis_base.specs.Lists.{places_from, head_of}
use Rattle.domains.specs.Tables.{fits}
use Rattle.transition_table.specs.NetworkFacts.{has, event_values, is_numbered, has_outputs}
use Rattle.transition_table.specs.Laws.{TransitionFits}
use Rattle.transition_table.specs.Transitions.{IsSnapshot, IsOutcome}
use Rattle.transition_table.specs.declared.decl.EventDecl.{EventDecl}
use Rattle.transition_table.specs.declared.decl.Party.{Party}
use Rattle.transition_table.specs.declared.decl.Party.TheVariants.{Env, Machine as Sender}
use Rattle.transition_table.specs.declared.machine.Machine.{Machine}
use Rattle.transition_table.specs.declared.network.Network.{Network}
use Rattle.transition_table.specs.declared.snapshot.Snapshot.{Snapshot}
use Rattle.transition_table.specs.declared.snapshot.Outcome.{Outcome}
use Rattle.journals.specs.declared.entry.Entry.{Entry}
use Rattle.journals.specs.declared.entry.Entry.TheVariants.{Dep, Rea}
use Rattle.journals.specs.declared.entry.Owed.{Owed}
use Rattle.journals.specs.declared.entry.TraceItem.{TraceItem}
use Rattle.journals.specs.declared.entry.TraceItem.TheVariants.{Event, Settle}
use Rattle.journals.specs.Journals.{FitsNetwork, IsJournal, IsTrace, is_trace_item, is_party, is_event_code, same_party, emitted, emissions, delivered}
use Rattle.journals.specs.Schedules.{receivers_of, deliveries_of, machine_deliveries, trace_deliveries, same_way, keep_unless, unmade, owed_by_machines, owed_by_env, first_woken, first_pick, pick, IsPicked}
use Rattle.journals.proofs.SnapFits.{reaction_fits}
use Rattle.journals.proofs.DeliveriesOfWay.{receivers_are_readers}
use Rattle.polis_base.proofs.ListTests.{all_get}

abbrev pub is_fitting : Network → Owed → Bool
is_fitting net d =
    is_party net d.from && nat_lt d.to (length net.machines) && is_event_code net d.event d.code

-- ---- lists

pub all_unmade : {X : Type 0} (p : X → Bool) (way : X → Owed) (journal : List Entry)
    (passed xs : List X) → list_all p xs ≡ true → list_all p (unmade way journal passed xs) ≡ true
all_unmade p way journal passed [] h = refl
all_unmade p way journal passed (x ∷ xs) h =
    let parts = and_parts (p x) (list_all p xs) h in
    kept
    (nat_lt (count_by (λ y. same_way (way y) (way x)) passed)
    (length (delivered (way x).from (way x).to journal))) parts.0
    (all_unmade p way journal (passed ++ x ∷ []) xs parts.1)
  where
    kept : (b : Bool) → p x ≡ true → list_all p (unmade way journal (passed ++ x ∷ []) xs) ≡ true
        → list_all p (keep_unless b x (unmade way journal (passed ++ x ∷ []) xs)) ≡ true
    kept true here rest = rest
    kept false here rest =
        and_from (p x) (list_all p (unmade way journal (passed ++ x ∷ []) xs)) here rest

passes_of_head : {X : Type 0} (p : X → Bool) (xs : List X) (x : X) → list_all p xs ≡ true
    → head_of xs ≡ Some x → p x ≡ true
passes_of_head p [] x h first = cc
passes_of_head p (y ∷ xs) x h first = let same : y ≡ x =
    cc in subst (λ z. p z ≡ true) same (and_parts (p y) (list_all p xs) h).0

places_within : {X : Type 0} (test : X → Bool) (n m : ℕ) (xs : List X) → n + length xs ≡ m
    → list_all (λ k. nat_lt k m) (places_from n test xs) ≡ true
places_within test n m [] h = refl
places_within test n m (x ∷ xs) h = cases (test x) (places_within test (n + 1) m xs (omega arith))
  where
    cases : (b : Bool) → list_all (λ k. nat_lt k m) (places_from (n + 1) test xs) ≡ true
        → list_all (λ k. nat_lt k m)
        (cond b (n ∷ places_from (n + 1) test xs) (places_from (n + 1) test xs)) ≡ true
    cases true rest =
        and_from (nat_lt n m) (list_all (λ k. nat_lt k m) (places_from (n + 1) test xs))
        (lt-ltb n m (omega arith)) rest
    cases false rest = rest

-- ---- deliveries

pub receivers_within : (net : Network) (e : ℕ)
    → list_all (λ k. nat_lt k (length net.machines)) (receivers_of net e) ≡ true
receivers_within net e =
    elim
    (slice_get net.events e) as (λ (o : Option EventDecl). slice_get net.events e ≡ o
    → list_all (λ k. nat_lt k (length net.machines))
    (unwrap_or (option_map (λ event. event.receivers) o) []) ≡ true) [
      | None ↦ λ is. refl
      | Some event ↦ λ is.
          ap (list_all (λ k. nat_lt k (length net.machines))) (receivers_are_readers net e event is)
          ∙ places_within (λ machine. has machine.inputs e) 0 (length net.machines) net.machines
          (omega arith)
    ] refl

to_each_fits : (net : Network) (s : Party) (e c : ℕ) (receivers : List ℕ) → is_party net s ≡ true
    → is_event_code net e c ≡ true → list_all (λ k. nat_lt k (length net.machines)) receivers ≡ true
    → list_all (is_fitting net)
    (map (λ m. record { from = s; to = m; event = e; code = c }) receivers) ≡ true
to_each_fits net s e c [] party code h = refl
to_each_fits net s e c (m ∷ receivers) party code h =
    let parts =
    and_parts (nat_lt m (length net.machines))
    (list_all (λ k. nat_lt k (length net.machines)) receivers) h in
    and_from (is_party net s && nat_lt m (length net.machines) && is_event_code net e c)
    (list_all (is_fitting net)
    (map (λ m. record { from = s; to = m; event = e; code = c }) receivers))
    (and_from (is_party net s && nat_lt m (length net.machines)) (is_event_code net e c)
    (and_from (is_party net s) (nat_lt m (length net.machines)) party parts.0) code)
    (to_each_fits net s e c receivers party code parts.1)

deliveries_fit : (net : Network) (s : Party) (ps : List (ℕ × ℕ)) → is_party net s ≡ true
    → list_all (λ p. is_event_code net p.0 p.1) ps ≡ true
    → list_all (is_fitting net) (flat_map (deliveries_of net s) ps) ≡ true
deliveries_fit net s [] party h = refl
deliveries_fit net s ((e, c) ∷ ps) party h =
    let parts =
    and_parts (is_event_code net e c) (list_all (λ p. is_event_code net p.0 p.1) ps) h in
    list_all-append (is_fitting net) (deliveries_of net s (e, c))
    (flat_map (deliveries_of net s) ps)
    ∙ and_from (list_all (is_fitting net) (deliveries_of net s (e, c)))
    (list_all (is_fitting net) (flat_map (deliveries_of net s) ps))
    (to_each_fits net s e c (receivers_of net e) party parts.0 (receivers_within net e))
    (deliveries_fit net s ps party parts.1)

-- ---- emissions

fits_after : (sizes xs ys : List ℕ) → fits sizes (xs ++ ys) ≡ true
    → fits (drop (length xs) sizes) ys ≡ true
fits_after sizes [] ys h = h
fits_after [] (x ∷ xs) ys h = absurd (false≢true h)
fits_after (size ∷ sizes) (x ∷ xs) ys h =
    fits_after sizes xs ys (and_parts (nat_lt x size) (fits sizes (xs ++ ys)) h).1

emitted_fit : (net : Network) (events codes : List ℕ)
    → list_all (λ e. nat_lt e (length net.events)) events ≡ true
    → fits (map (λ e. 1 + event_values net.domains net.events e) events) codes ≡ true
    → list_all (λ p. is_event_code net p.0 p.1) (emitted events codes) ≡ true
emitted_fit net [] [] numbered h = refl
emitted_fit net [] (c ∷ codes) numbered h = absurd (false≢true h)
emitted_fit net (e ∷ events) [] numbered h = absurd (false≢true h)
emitted_fit net (e ∷ events) (zero ∷ codes) numbered h =
    emitted_fit net events codes
    (and_parts (nat_lt e (length net.events))
    (list_all (λ e. nat_lt e (length net.events)) events) numbered).1
    (and_parts (nat_lt 0 (1 + event_values net.domains net.events e))
    (fits (map (λ e. 1 + event_values net.domains net.events e) events) codes) h).1
emitted_fit net (e ∷ events) (suc v ∷ codes) numbered h =
    let there =
    and_parts (nat_lt e (length net.events))
    (list_all (λ e. nat_lt e (length net.events)) events) numbered in
    let parts =
    and_parts (nat_lt (suc v) (1 + event_values net.domains net.events e))
    (fits (map (λ e. 1 + event_values net.domains net.events e) events) codes) h in
    let below = ltb-true (suc v) (1 + event_values net.domains net.events e) parts.0 in
    and_from (is_event_code net e (suc v))
    (list_all (λ p. is_event_code net p.0 p.1) (emitted events codes))
    (and_from (nat_lt e (length net.events) && nat_le 1 (suc v))
    (nat_le (suc v) (event_values net.domains net.events e))
    (and_from (nat_lt e (length net.events)) (nat_le 1 (suc v)) there.0
    (le-leb 1 (suc v) (omega arith)))
    (le-leb (suc v) (event_values net.domains net.events e) (omega arith)))
    (emitted_fit net events codes there.1 parts.1)

outs_fit : (net : Network) (m : ℕ) (machine : Machine) (o : Outcome)
    → slice_get net.machines m ≡ Some machine → IsOutcome machine o
    → list_all (λ p. is_event_code net p.0 p.1) (emitted machine.outputs o.outs) ≡ true
outs_fit net m machine o is fit =
    emitted_fit net machine.outputs o.outs
    (and_parts inputs outputs
    (and_parts (inputs && outputs) states
    (all_get
    (is_numbered net.domains net.events) net.machines m machine net.numbered is)).0).1
    (subst (λ sizes. fits sizes o.outs ≡ true) sized
    (subst (λ n. fits (drop n (drop 1 machine.results)) o.outs ≡ true) fit.widths.next
    (fits_after (drop 1 machine.results) o.next o.outs fit.codes)))
  where
    inputs : Bool
    inputs = list_all (λ e. nat_lt e (length net.events)) machine.inputs

    outputs : Bool
    outputs = list_all (λ e. nat_lt e (length net.events)) machine.outputs

    states : Bool
    states = list_all (λ state. nat_lt state.domain (length net.domains)) machine.states

    sizes : List ℕ
    sizes = map (λ e. 1 + event_values net.domains net.events e) machine.outputs

    sized : drop (length machine.states) (drop 1 machine.results) ≡ sizes
    sized =
        drop-drop (length machine.states) 1 machine.results
        ∙ (slice_eq-Decides Decides-eqb (drop (1 + length machine.states) machine.results) sizes
        (pointwise ◌==◌ (drop (1 + length machine.states) machine.results) sizes) refl).0
        (all_get
        (has_outputs net.domains net.events) net.machines m machine net.sized_outputs is)

pub emissions_fit : (net : Network) (m : ℕ) (x : Snapshot) (o : Outcome)
    → FitsNetwork net (Rea m x o)
    → (is_party net (Sender m) ≡ true)
    × (list_all (λ p. is_event_code net p.0 p.1) (emissions net (Rea m x o)) ≡ true)
emissions_fit net m x o h =
    elim
    (slice_get net.machines m) as (λ (found : Option Machine). slice_get net.machines m ≡ found
    → IsSomeAnd found (λ machine. IsSnapshot machine x × IsOutcome machine o)
    → (nat_lt m (length net.machines) ≡ true)
    × (list_all (λ p. is_event_code net p.0 p.1)
    (cond o.fires
    (emitted (unwrap_or (option_map (λ machine. machine.outputs) found) []) o.outs) []) ≡ true)) [
      | None ↦ λ is none. absurd none
      | Some machine ↦ λ is some. (
        lt-ltb m (length net.machines)
            (slice_get_within net.machines m machine is),
        where_fires machine o.fires
            (outs_fit net m machine o is some.1),
      )
    ] refl h
  where
    where_fires : (machine : Machine) (b : Bool)
        → list_all (λ p. is_event_code net p.0 p.1) (emitted machine.outputs o.outs) ≡ true
        → list_all (λ p. is_event_code net p.0 p.1) (cond b (emitted machine.outputs o.outs) [])
        ≡ true
    where_fires machine true fit = fit
    where_fires machine false fit = refl

-- ---- what is given

pub machine_deliveries_fit : (net : Network) (journal : List Entry) → IsJournal net journal
    → list_all (is_fitting net) (machine_deliveries net journal) ≡ true
machine_deliveries_fit net [] h = refl
machine_deliveries_fit net (Dep from to e c ∷ journal) h = machine_deliveries_fit net journal h.1
machine_deliveries_fit net (Rea m x o ∷ journal) h =
    let fit = emissions_fit net m x o h.0 in
    list_all-append (is_fitting net)
    (flat_map (deliveries_of net (Sender m)) (emissions net (Rea m x o)))
    (machine_deliveries net journal)
    ∙ and_from
    (list_all (is_fitting net)
    (flat_map (deliveries_of net (Sender m)) (emissions net (Rea m x o))))
    (list_all (is_fitting net) (machine_deliveries net journal))
    (deliveries_fit net (Sender m) (emissions net (Rea m x o)) fit.0 fit.1)
    (machine_deliveries_fit net journal h.1)

pub trace_deliveries_fit : (net : Network) (settled : Bool) (trace : List TraceItem)
    → IsTrace net trace
    → list_all (λ (p : Owed × Bool). is_fitting net p.0) (trace_deliveries net settled trace) ≡ true
trace_deliveries_fit net settled [] h = refl
trace_deliveries_fit net settled (Settle ∷ items) h =
    trace_deliveries_fit net true items (and_parts true (list_all (is_trace_item net) items) h).1
trace_deliveries_fit net settled (Event e c ∷ items) h =
    let parts = and_parts (is_trace_item net (Event e c)) (list_all (is_trace_item net) items) h in
    let item =
    and_parts (is_event_code net e c)
    (unwrap_or (option_map (λ event. same_party event.sender Env) (slice_get net.events e)) false)
    parts.0 in
    list_all-append (λ (p : Owed × Bool). is_fitting net p.0)
    (map (λ d. (d, settled)) (deliveries_of net Env (e, c))) (trace_deliveries net false items)
    ∙ and_from
    (list_all (λ (p : Owed × Bool). is_fitting net p.0)
    (map (λ d. (d, settled)) (deliveries_of net Env (e, c))))
    (list_all (λ (p : Owed × Bool). is_fitting net p.0) (trace_deliveries net false items))
    (list_all-map (λ (p : Owed × Bool). is_fitting net p.0) (λ d. (d, settled))
    (deliveries_of net Env (e, c))
    ∙ to_each_fits net Env e c (receivers_of net e) refl item.0 (receivers_within net e))
    (trace_deliveries_fit net false items parts.1)

pub first_of_machines_fits : (net : Network) (journal : List Entry) (d : Owed)
    → IsJournal net journal → head_of (owed_by_machines net journal) ≡ Some d
    → FitsNetwork net (Dep d.from d.to d.event d.code)
first_of_machines_fits net journal d h first =
    passes_of_head (is_fitting net) (owed_by_machines net journal) d
    (all_unmade (is_fitting net) (λ d. d) journal [] (machine_deliveries net journal)
    (machine_deliveries_fit net journal h)) first

pub first_of_env_fits : (net : Network) (trace : List TraceItem) (journal : List Entry)
    (p : Owed × Bool) → IsTrace net trace → head_of (owed_by_env net trace journal) ≡ Some p
    → FitsNetwork net (Dep (p.0).from (p.0).to (p.0).event (p.0).code)
first_of_env_fits net trace journal p h first =
    passes_of_head (λ (p : Owed × Bool). is_fitting net p.0) (owed_by_env net trace journal) p
    (all_unmade (λ (p : Owed × Bool). is_fitting net p.0) (λ p. p.0) journal []
    (trace_deliveries net false trace) (trace_deliveries_fit net false trace h)) first

-- ---- what is picked

picked_fits_by_parts : TransitionFits
    → (net : Network) (trace : List TraceItem) (journal : List Entry) (entry : Entry)
    (a : Option Owed) (b : Option (Owed × Bool)) (c : Option ℕ)
    → IsTrace net trace
    → IsJournal net journal
    → head_of (owed_by_machines net journal) ≡ a
    → head_of (owed_by_env net trace journal) ≡ b
    → IsPicked net journal (first_pick a b c) entry
    → FitsNetwork net entry
picked_fits_by_parts fits net trace journal entry (Some d) b c t h machines env is =
    subst (FitsNetwork net) (sym is) (first_of_machines_fits net journal d h machines)
picked_fits_by_parts fits net trace journal entry None (Some (d, false)) c t h machines env is =
    subst (FitsNetwork net) (sym is) (first_of_env_fits net trace journal (d, false) t env)
picked_fits_by_parts fits net trace journal entry None (Some (d, true)) (Some m) t h machines env
    (o, is, transition) =
    subst (FitsNetwork net) (sym is) (reaction_fits fits net journal m o h transition)
picked_fits_by_parts fits net trace journal entry None None (Some m) t h machines env
    (o, is, transition) =
    subst (FitsNetwork net) (sym is) (reaction_fits fits net journal m o h transition)
picked_fits_by_parts fits net trace journal entry None (Some (d, true)) None t h machines env is =
    subst (FitsNetwork net) (sym is) (first_of_env_fits net trace journal (d, true) t env)
picked_fits_by_parts fits net trace journal entry None None None t h machines env is = absurd is

pub picked_fits : TransitionFits
    → (net : Network) (trace : List TraceItem) (journal : List Entry) (entry : Entry)
    → IsTrace net trace → IsJournal net journal
    → IsPicked net journal (pick net trace journal) entry → FitsNetwork net entry
picked_fits fits net trace journal entry t h is =
    picked_fits_by_parts fits net trace journal entry (head_of (owed_by_machines net journal))
    (head_of (owed_by_env net trace journal)) (first_woken net journal) t h refl refl is
