-- The deliveries that an entry gives go to machines that read their events.
use Rattle.std.specs.Prelude.{◌≡◌, ℕ, Bool, true, false, cond, ◌&&◌, ◌||◌, ◌==◌, nat_lt, List, [], ◌∷◌, map, filter, flat_map, length, slice_get, option_map, unwrap_or}
use Rattle.std.specs.List.{list_all}
use Rattle.std.proofs.Common.{refl, sym, ap, ◌∙◌}
use Rattle.std.proofs.lemmas.List.{map-append}
use Rattle.std.proofs.lemmas.List.Folds.{list_all-append}
use Rattle.std.proofs.lemmas.Bool.{false≢true, eq-eqb, and_parts, and_from, or_left, or_right}
use Rattle.transition_table.specs.NetworkFacts.{has}
use Rattle.transition_table.specs.declared.decl.Party.{Party}
use Rattle.transition_table.specs.declared.decl.Party.TheVariants.{Env, Machine as Sender}
use Rattle.transition_table.specs.declared.network.Network.{Network}
use Rattle.journals.specs.declared.entry.Entry.TheVariants.{Dep, Rea}
use Rattle.journals.specs.declared.entry.Owed.{Owed}
use Rattle.journals.specs.declared.entry.TraceItem.TheVariants.{Event, Settle}
use Rattle.journals.specs.Journals.{is_trace_item, same_party, is_party, is_event_code, reads, emissions}
use Rattle.journals.specs.Schedules.{receivers_of, deliveries_of, trace_deliveries}
use Rattle.journals.specs.Laws.{may_arrive, EnvMayArrive, GivenByEnv, GivenByMachine, GivenMayArrive, TraceMayArrive}
use Rattle.journals.proofs.FitsNetwork.{receivers_within, emissions_fit}
use Rattle.journals.proofs.DeliveredBeginsSent.{same_party_self}
use Rattle.journals.proofs.DeliveriesOfWay.{receivers_once}

all_that_stand : (p : ℕ → Bool) (xs : List ℕ) → ((m : ℕ) → has xs m ≡ true → p m ≡ true)
    → list_all p xs ≡ true
all_that_stand p [] h = refl
all_that_stand p (x ∷ xs) h =
    and_from (p x) (list_all p xs) (h x (or_left (x == x) (has xs x) (eq-eqb x x refl)))
    (all_that_stand p xs (λ m there. h m (or_right (x == m) (has xs m) there)))

none_stands : (xs : List ℕ) (m : ℕ) → filter (λ k. k == m) xs ≡ [] → has xs m ≡ false
none_stands [] m h = refl
none_stands (x ∷ xs) m h = cases (x == m) (λ none. none_stands xs m none) h
  where
    cases : (b : Bool) → (filter (λ k. k == m) xs ≡ [] → has xs m ≡ false)
        → cond b (x ∷ filter (λ k. k == m) xs) (filter (λ k. k == m) xs) ≡ []
        → (b || has xs m) ≡ false
    cases true rest none = cc
    cases false rest none = rest none

receivers_read : (net : Network) (e : ℕ) → list_all (λ m. reads net m e) (receivers_of net e) ≡ true
receivers_read net e =
    all_that_stand (λ m. reads net m e) (receivers_of net e)
    (λ m there. cases m (reads net m e) there (receivers_once net m e))
  where
    cases : (m : ℕ) (b : Bool) → has (receivers_of net e) m ≡ true
        → filter (λ k. k == m) (receivers_of net e) ≡ cond b (m ∷ []) [] → b ≡ true
    cases m true there is = refl
    cases m false there is =
        absurd (false≢true (sym (none_stands (receivers_of net e) m is) ∙ there))

to_each_may_arrive : (net : Network) (s : Party) (e c : ℕ) (receivers : List ℕ)
    → is_party net s ≡ true
    → is_event_code net e c ≡ true
    → list_all (λ k. nat_lt k (length net.machines)) receivers ≡ true
    → list_all (λ m. reads net m e) receivers ≡ true
    → list_all (may_arrive net)
    (map (λ m. record { from = s; to = m; event = e; code = c }) receivers) ≡ true
to_each_may_arrive net s e c [] party code within h = refl
to_each_may_arrive net s e c (m ∷ receivers) party code within h =
    let parts =
    and_parts (nat_lt m (length net.machines))
    (list_all (λ k. nat_lt k (length net.machines)) receivers) within in
    let more = and_parts (reads net m e) (list_all (λ m. reads net m e) receivers) h in
    and_from (may_arrive net (record { from = s; to = m; event = e; code = c }))
    (list_all (may_arrive net)
    (map (λ m. record { from = s; to = m; event = e; code = c }) receivers))
    (and_from (is_party net s && nat_lt m (length net.machines) && is_event_code net e c)
    (reads net m e)
    (and_from (is_party net s && nat_lt m (length net.machines)) (is_event_code net e c)
    (and_from (is_party net s) (nat_lt m (length net.machines)) party parts.0) code)
    more.0)
    (to_each_may_arrive net s e c receivers party code parts.1 more.1)

all_may_arrive : (net : Network) (s : Party) (ps : List (ℕ × ℕ)) → is_party net s ≡ true
    → list_all (λ p. is_event_code net p.0 p.1) ps ≡ true
    → list_all (may_arrive net) (flat_map (deliveries_of net s) ps) ≡ true
all_may_arrive net s [] party h = refl
all_may_arrive net s ((e, c) ∷ ps) party h =
    let parts =
    and_parts (is_event_code net e c) (list_all (λ p. is_event_code net p.0 p.1) ps) h in
    list_all-append (may_arrive net) (deliveries_of net s (e, c))
    (flat_map (deliveries_of net s) ps)
    ∙ and_from (list_all (may_arrive net) (deliveries_of net s (e, c)))
    (list_all (may_arrive net) (flat_map (deliveries_of net s) ps))
    (to_each_may_arrive net s e c (receivers_of net e) party parts.0 (receivers_within net e)
    (receivers_read net e))
    (all_may_arrive net s ps party parts.1)

-- ---- from whom they are

pub from_sender : (s : Party) (e c : ℕ) (receivers : List ℕ)
    → list_all (λ (d : Owed). same_party d.from s)
    (map (λ m. record { from = s; to = m; event = e; code = c }) receivers) ≡ true
from_sender s e c [] = refl
from_sender s e c (m ∷ receivers) =
    and_from (same_party s s)
    (list_all (λ (d : Owed). same_party d.from s)
    (map (λ m. record { from = s; to = m; event = e; code = c }) receivers))
    (same_party_self s) (from_sender s e c receivers)

pub all_from_sender : (net : Network) (s : Party) (ps : List (ℕ × ℕ))
    → list_all (λ (d : Owed). same_party d.from s) (flat_map (deliveries_of net s) ps) ≡ true
all_from_sender net s [] = refl
all_from_sender net s ((e, c) ∷ ps) =
    list_all-append (λ (d : Owed). same_party d.from s) (deliveries_of net s (e, c))
    (flat_map (deliveries_of net s) ps)
    ∙ and_from (list_all (λ (d : Owed). same_party d.from s) (deliveries_of net s (e, c)))
    (list_all (λ (d : Owed). same_party d.from s) (flat_map (deliveries_of net s) ps))
    (from_sender s e c (receivers_of net e)) (all_from_sender net s ps)

pub given_by_machine : GivenByMachine
given_by_machine net (Dep from to event code) = refl
given_by_machine net (Rea m x o) = all_from_sender net (Sender m) (emissions net (Rea m x o))

from_env : (settled : Bool) (ds : List Owed)
    → list_all (λ (p : Owed × Bool). same_party p.0.from Env) (map (λ (d : Owed). (d, settled)) ds)
    ≡ list_all (λ (d : Owed). same_party d.from Env) ds
from_env settled [] = refl
from_env settled (d ∷ ds) = ap (λ b. same_party d.from Env && b) (from_env settled ds)

pub given_by_env : GivenByEnv
given_by_env net settled [] = refl
given_by_env net settled (Settle ∷ items) = given_by_env net true items
given_by_env net settled (Event e c ∷ items) =
    let test : Owed × Bool → Bool = λ p. same_party p.0.from Env in
    let first : List (Owed × Bool) =
    map (λ (d : Owed). (d, settled)) (deliveries_of net Env (e, c)) in
    let rest : List (Owed × Bool) = trace_deliveries net false items in
    list_all-append test first rest
    ∙ and_from (list_all test first) (list_all test rest)
    (from_env settled (deliveries_of net Env (e, c)) ∙ from_sender Env e c (receivers_of net e))
    (given_by_env net false items)

-- ---- that they may arrive

pub env_may_arrive : EnvMayArrive
env_may_arrive net e c code =
    to_each_may_arrive net Env e c (receivers_of net e) refl code (receivers_within net e)
    (receivers_read net e)

pub given_may_arrive : GivenMayArrive
given_may_arrive net (Dep from to event code) h = refl
given_may_arrive net (Rea m x o) h =
    let fit = emissions_fit net m x o h in
    all_may_arrive net (Sender m) (emissions net (Rea m x o)) fit.0 fit.1

pub trace_may_arrive : TraceMayArrive
trace_may_arrive net settled [] h = refl
trace_may_arrive net settled (Settle ∷ items) h =
    trace_may_arrive net true items (and_parts true (list_all (is_trace_item net) items) h).1
trace_may_arrive net settled (Event e c ∷ items) h =
    let parts = and_parts (is_trace_item net (Event e c)) (list_all (is_trace_item net) items) h in
    let item =
    and_parts (is_event_code net e c)
    (unwrap_or (option_map (λ event. same_party event.sender Env) (slice_get net.events e)) false)
    parts.0 in
    let first : List (Owed × Bool) =
    map (λ (d : Owed). (d, settled)) (deliveries_of net Env (e, c)) in
    ap (list_all (may_arrive net))
    (map-append (λ (d : Owed × Bool). d.0) first (trace_deliveries net false items))
    ∙ list_all-append (may_arrive net) (map (λ (d : Owed × Bool). d.0) first)
    (map (λ (d : Owed × Bool). d.0) (trace_deliveries net false items))
    ∙ and_from (list_all (may_arrive net) (map (λ (d : Owed × Bool). d.0) first))
    (list_all (may_arrive net) (map (λ (d : Owed × Bool). d.0) (trace_deliveries net false items)))
    (ap (list_all (may_arrive net)) (unpaired (deliveries_of net Env (e, c)))
    ∙ to_each_may_arrive net Env e c (receivers_of net e) refl item.0 (receivers_within net e)
    (receivers_read net e))
    (trace_may_arrive net false items parts.1)
  where
    unpaired : (ds : List Owed)
        → map (λ (d : Owed × Bool). d.0) (map (λ (d : Owed). (d, settled)) ds) ≡ ds
    unpaired [] = refl
    unpaired (d ∷ ds) = ap (λ l. d ∷ l) (unpaired ds)
