-- What a monitor hears, in step with its trace.
use Rattle.std.proofs.Common.{◌≡◌, ℕ, ◌+◌, ◌<◌, nat_lt, Bool, true, false, cond, List, [], ◌∷◌, ◌++◌, map, filter, filter_map, find, flat_map, length, take, slice_get, Option, Some, None, option_map, unwrap_or, refl, sym, ap, ◌∙◌, append_assoc}
use Rattle.std.specs.List.{cons_option, list_all}
use Rattle.std.proofs.lemmas.Bool.{and_parts, ltb-true}
use Rattle.std.proofs.lemmas.List.{length-map}
use Rattle.std.proofs.lemmas.List.Concat.{flat_map-append}
use Rattle.std.proofs.lemmas.List.Elements.{filter_map-append}
use Rattle.std.proofs.lemmas.Option.{unwrap_or-slice_get}
use Rattle.polis_base.specs.Lists.{upto}
use Rattle.transition_table.specs.declared.decl.EventDecl.{EventDecl}
use Rattle.transition_table.specs.declared.decl.Party.TheVariants.{Env}
use Rattle.transition_table.specs.declared.network.Network.{Network}
use Rattle.journals.specs.declared.entry.Entry.{Entry}
use Rattle.journals.specs.declared.entry.TraceItem.{TraceItem}
use Rattle.journals.specs.declared.entry.TraceItem.TheVariants.{Event, Settle}
use Rattle.journals.specs.Journals.{event_of, reads, sent}
use Rattle.journals.proofs.MomentsAfter.{get_or_table}
use Rattle.run_watch.specs.Emissions.{placed_outputs}
use Rattle.run_watch.specs.Laws.{TraceTellsOutputs, items_as, items_of}
use Rattle.run_watch.specs.Monitors.{heard_by, hears, hears_at, settled, then_settle, watched}
use Rattle.run_watch.specs.Watches.{sources}
use Rattle.run_watch.specs.declared.emission.Emission.{Emission}
use Rattle.run_watch.specs.inner.Hearings.{looked_up}
use Rattle.run_watch.proofs.Placed.{event_code, placed_are_outputs}
use Rattle.polis_base.proofs.Places.{take_next}

-- ---- the trace

settled_heard : (net monitor : Network) (xs : List Emission)
    → settled (filter_map (heard_by (watched net monitor)) xs)
    ≡ flat_map (items_of net monitor) (map event_code xs)
settled_heard net monitor [] = refl
settled_heard net monitor (x ∷ xs) =
    cases (watched net monitor x.event) (settled_heard net monitor xs)
  where
    cases : (o : Option ℕ)
        → settled (filter_map (heard_by (watched net monitor)) xs)
        ≡ flat_map (items_of net monitor) (map event_code xs)
        → settled
        (cons_option (option_map (λ w. record { place = x.place; event = w; code = x.code }) o)
        (filter_map (heard_by (watched net monitor)) xs))
        ≡ items_as o x.code ++ flat_map (items_of net monitor) (map event_code xs)
    cases None rest = rest
    cases (Some w) rest = ap (λ (l : List TraceItem). Event w x.code ∷ Settle ∷ l) rest

pub trace_tells_outputs : TraceTellsOutputs
trace_tells_outputs net monitor journal =
    settled_heard net monitor (placed_outputs net journal)
    ∙ ap (flat_map (items_of net monitor)) (placed_are_outputs net journal)

-- ---- what a machine is sent

events_settled : (xs : List Emission) → filter_map event_of (settled xs) ≡ map event_code xs
events_settled [] = refl
events_settled (x ∷ xs) = ap (λ (l : List (ℕ × ℕ)). event_code x ∷ l) (events_settled xs)

filter_events : (q : ℕ → Bool) (xs : List Emission)
    → filter (λ (p : ℕ × ℕ). q p.0) (map event_code xs)
    ≡ map event_code (filter (λ x. q x.event) xs)
filter_events q [] = refl
filter_events q (x ∷ xs) = cases (q x.event) (filter_events q xs)
  where
    cases : (b : Bool)
        → filter (λ (p : ℕ × ℕ). q p.0) (map event_code xs)
        ≡ map event_code (filter (λ x. q x.event) xs)
        → cond b (event_code x ∷ filter (λ (p : ℕ × ℕ). q p.0) (map event_code xs))
        (filter (λ (p : ℕ × ℕ). q p.0) (map event_code xs))
        ≡ map event_code (cond b (x ∷ filter (λ x. q x.event) xs) (filter (λ x. q x.event) xs))
    cases true rest = ap (λ (l : List (ℕ × ℕ)). event_code x ∷ l) rest
    cases false rest = rest

sent_settled : (monitor : Network) (xs : List Emission) (m : ℕ) (watch : List Entry)
    → sent monitor (settled xs) Env m watch
    ≡ map event_code (filter (λ x. reads monitor m x.event) xs)
sent_settled monitor xs m watch =
    ap (filter (λ (p : ℕ × ℕ). reads monitor m p.0)) (events_settled xs)
    ∙ filter_events (reads monitor m) xs

pub sources_many : (monitor : Network) (xs : List Emission) (m : ℕ) (watch : List Entry)
    → length (sources monitor xs m) ≡ length (sent monitor (settled xs) Env m watch)
sources_many monitor xs m watch =
    length-map (filter (λ x. reads monitor m x.event) xs) (λ (x : Emission). x.place)
    ∙ sym (length-map (filter (λ x. reads monitor m x.event) xs) event_code)
    ∙ ap length (sym (sent_settled monitor xs m watch))

-- ---- what was looked up

table_is : (f : ℕ → Option ℕ) (n e : ℕ) → e < n → looked_up (map f (upto n)) e ≡ f e
table_is f n e below =
    unwrap_or-slice_get (map f (upto n)) e None ∙ get_or_table f n e None below

pub heard_same : (net monitor : Network) (events : List (Option ℕ)) (xs : List Emission)
    → events ≡ map (watched net monitor) (upto (length net.events))
    → list_all (λ x. nat_lt x.event (length net.events)) xs ≡ true
    → filter_map (heard_by (looked_up events)) xs ≡ filter_map (heard_by (watched net monitor)) xs
heard_same net monitor events [] are all = refl
heard_same net monitor events (x ∷ xs) are all =
    let parts =
    and_parts (nat_lt x.event (length net.events))
    (list_all (λ y. nat_lt y.event (length net.events)) xs) all in
    let one : looked_up events x.event ≡ watched net monitor x.event =
    ap (λ (l : List (Option ℕ)). looked_up l x.event) are
    ∙ table_is (watched net monitor) (length net.events) x.event
    (ltb-true x.event (length net.events) parts.0) in
    ap
    (λ (o : Option ℕ). cons_option
    (option_map (λ w. record { place = x.place; event = w; code = x.code }) o)
    (filter_map (heard_by (looked_up events)) xs)) one
    ∙ ap (cons_option (heard_by (watched net monitor) x))
    (heard_same net monitor events xs are parts.1)

-- ---- one item more

pub heard_more : (events : List (Option ℕ)) (outputs : List Emission) (k : ℕ) (x : Emission)
    → slice_get outputs k ≡ Some x
    → filter_map (heard_by (looked_up events)) (take (k + 1) outputs)
    ≡ filter_map (heard_by (looked_up events)) (take k outputs)
    ++ filter_map (heard_by (looked_up events)) (x ∷ [])
heard_more events outputs k x at =
    ap (filter_map (heard_by (looked_up events))) (take_next outputs k x at)
    ∙ filter_map-append (heard_by (looked_up events)) (take k outputs) (x ∷ [])

pub settled_more : (heard : List Emission) (k : ℕ) (x : Emission) → slice_get heard k ≡ Some x
    → settled (take (k + 1) heard)
    ≡ (settled (take k heard) ++ Event x.event x.code ∷ []) ++ Settle ∷ []
settled_more heard k x at =
    ap settled (take_next heard k x at)
    ∙ flat_map-append (λ (x : Emission). then_settle x.event x.code) (take k heard) (x ∷ [])
    ∙ sym (append_assoc (settled (take k heard)) (Event x.event x.code ∷ []) (Settle ∷ []))

-- the event that stands there has the name
pub hears_by : (monitor : Network) (name : List ℕ) (w : ℕ) (event : EventDecl)
    → slice_get monitor.events w ≡ Some event → hears_at monitor name w ≡ hears name event
hears_by monitor name w event at =
    ap (λ (o : Option EventDecl). unwrap_or (option_map (hears name) o) false) at

pub watched_by : (net monitor : Network) (e : ℕ) (event : EventDecl)
    → slice_get net.events e ≡ Some event
    → find (hears_at monitor event.name) (upto (length monitor.events)) ≡ watched net monitor e
watched_by net monitor e event at =
    ap
    (λ (o : Option EventDecl). find
    (hears_at monitor (unwrap_or (option_map (λ (event : EventDecl). event.name) o) []))
    (upto (length monitor.events))) (sym at)
