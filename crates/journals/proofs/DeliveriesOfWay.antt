-- The deliveries from one sender to one receiver are what was sent.
use Rattle.std.specs.Prelude.{◌≡◌, ℕ, zero, suc, ◌+◌, ◌<◌, Bool, true, false, cond, ◌&&◌, ◌==◌, nat_lt, List, [], ◌∷◌, ◌++◌, map, filter, filter_map, flat_map, length, slice_get, Option, Some, None, option_map, unwrap_or}
use Rattle.std.specs.List.{list_all, enumerate_from}
use Rattle.std.specs.Cmp.Lexicographic.{pointwise}
use Rattle.std.proofs.Common.{refl, sym, ap, ◌∙◌, subst, inl, inr, arith}
use Rattle.std.proofs.lemmas.List.{map-append}
use Rattle.std.proofs.lemmas.List.Elements.{filter-append}
use Rattle.std.proofs.lemmas.Bool.{false≢true, ltb-true, eqb-true, eq-eqb, ne_eqb, and_parts, or_cases, false_from_ne_true}
use Rattle.std.proofs.lemmas.Bool.Decides.{Decides-eqb}
use Rattle.std.proofs.lemmas.Option.{slice_get_cases}
use Rattle.std.proofs.lemmas.Slice.Eq.{slice_eq-Decides}
use Rattle.polis_base.specs.Lists.{places_from, places_where}
use Rattle.transition_table.specs.NetworkFacts.{has, has_receivers, is_numbered}
use Rattle.transition_table.specs.declared.decl.EventDecl.{EventDecl}
use Rattle.transition_table.specs.declared.decl.Party.{Party}
use Rattle.transition_table.specs.declared.decl.Party.TheVariants.{Env, Machine as Sender}
use Rattle.transition_table.specs.declared.machine.Machine.{Machine}
use Rattle.transition_table.specs.declared.network.Network.{Network}
use Rattle.journals.specs.declared.entry.Entry.{Entry}
use Rattle.journals.specs.declared.entry.Entry.TheVariants.{Dep, Rea}
use Rattle.journals.specs.declared.entry.Owed.{Owed}
use Rattle.journals.specs.declared.entry.TraceItem.{TraceItem}
use Rattle.journals.specs.declared.entry.TraceItem.TheVariants.{Event, Settle}
use Rattle.journals.specs.Journals.{same_party, inputs_of, reads, is_firing_of, emissions, event_of, sent}
use Rattle.journals.specs.Schedules.{is_way, event_code, receivers_of, deliveries_of, machine_deliveries, trace_deliveries}
use Rattle.polis_base.proofs.ListTests.{all_get}
use Rattle.polis_base.proofs.Places.{map_of_map}

-- ---- lists

pub filter_of_map : {X Y : Type 0} (p : Y → Bool) (f : X → Y) (xs : List X)
    → filter p (map f xs) ≡ map f (filter (λ x. p (f x)) xs)
filter_of_map p f [] = refl
filter_of_map p f (x ∷ xs) =
    let rest = filter_of_map p f xs in
    elim
    (p (f x)) as (λ b.
    cond b (f x ∷ filter p (map f xs)) (filter p (map f xs))
    ≡ map f (cond b (x ∷ filter (λ x. p (f x)) xs) (filter (λ x. p (f x)) xs))) [
      | true ↦ ap (λ l. f x ∷ l) rest
      | false ↦ rest
    ]

pub filter_nothing : {X : Type 0} (xs : List X) → filter (λ x. false) xs ≡ []
filter_nothing [] = refl
filter_nothing (x ∷ xs) = filter_nothing xs

-- the same with the items' places
pub passes_of_each : {X : Type 0} (p : ℕ × X → Bool) (n i m : ℕ) (xs : List X) (x : X) → n + i ≡ m
    → list_all p (enumerate_from n xs) ≡ true → slice_get xs i ≡ Some x → p (m, x) ≡ true
passes_of_each p n i m [] x place h e = cc
passes_of_each p n zero m (y ∷ xs) x place h e =
    let same : y ≡ x = cc in
    let here : n ≡ m = omega arith in
    subst (λ k. p (k, x) ≡ true) here
    (subst (λ z. p (n, z) ≡ true) same
    (and_parts (p (n, y)) (list_all p (enumerate_from (n + 1) xs)) h).0)
passes_of_each p n (suc i) m (y ∷ xs) x place h e =
    passes_of_each p (n + 1) i m xs x (omega arith)
    (and_parts (p (n, y)) (list_all p (enumerate_from (n + 1) xs)) h).1 e

-- ---- receivers

places_before : {X : Type 0} (test : X → Bool) (m n : ℕ) (xs : List X) → m < n
    → filter (λ k. k == m) (places_from n test xs) ≡ []
places_before test m n [] h = refl
places_before test m n (x ∷ xs) h =
    let rest : filter (λ k. k == m) (places_from (n + 1) test xs) ≡ [] =
    places_before test m (n + 1) xs (omega arith) in
    let no : (n == m) ≡ false = ne_eqb n m (λ e. omega arith) in
    elim
    (test x) as (λ b.
    filter (λ k. k == m) (cond b (n ∷ places_from (n + 1) test xs) (places_from (n + 1) test xs))
    ≡ []) [
      | true ↦ rw no rest
      | false ↦ rest
    ]

places_at : {X : Type 0} (test : X → Bool) (n i m : ℕ) (xs : List X) → n + i ≡ m
    → filter (λ k. k == m) (places_from n test xs)
    ≡ cond (unwrap_or (option_map test (slice_get xs i)) false) (m ∷ []) []
places_at test n i m [] e = refl
places_at test n zero m (x ∷ xs) e =
    let same : n ≡ m = omega arith in
    let yes : (n == m) ≡ true = eq-eqb n m same in
    let rest : filter (λ k. k == m) (places_from (n + 1) test xs) ≡ [] =
    places_before test m (n + 1) xs (omega arith) in
    elim
    (test x) as (λ b.
    filter (λ k. k == m) (cond b (n ∷ places_from (n + 1) test xs) (places_from (n + 1) test xs))
    ≡ cond b (m ∷ []) []) [
      | true ↦ rw yes (ap (λ l. n ∷ l) rest ∙ ap (λ k. k ∷ []) same)
      | false ↦ rest
    ]
places_at test n (suc i) m (x ∷ xs) e =
    let no : (n == m) ≡ false = ne_eqb n m (λ w. omega arith) in
    let rest = places_at test (n + 1) i m xs (omega arith) in
    elim
    (test x) as (λ b.
    filter (λ k. k == m) (cond b (n ∷ places_from (n + 1) test xs) (places_from (n + 1) test xs))
    ≡ cond (unwrap_or (option_map test (slice_get xs i)) false) (m ∷ []) []) [
      | true ↦ rw no rest
      | false ↦ rest
    ]

-- a machine reads an event where it has it as an input
pub reads_by_machine : (net : Network) (m e : ℕ)
    → unwrap_or (option_map (λ machine. has machine.inputs e) (slice_get net.machines m)) false
    ≡ reads net m e
reads_by_machine net m e =
    elim
    (slice_get net.machines m) as (λ (o : Option Machine). unwrap_or
    (option_map (λ machine. has machine.inputs e) o) false
    ≡ has (unwrap_or (option_map (λ machine. machine.inputs) o) []) e) [
      | None ↦ refl
      | Some machine ↦ refl
    ]

has_of_all : (p : ℕ → Bool) (numbers : List ℕ) (n : ℕ) → list_all p numbers ≡ true
    → has numbers n ≡ true → p n ≡ true
has_of_all p [] n h e = absurd (false≢true e)
has_of_all p (k ∷ numbers) n h e =
    elim (or_cases (k == n) (has numbers n) e) [
      | inl here ↦
          subst (λ j. p j ≡ true) (eqb-true k n here) (and_parts (p k) (list_all p numbers) h).0
      | inr there ↦ has_of_all p numbers n (and_parts (p k) (list_all p numbers) h).1 there
    ]

inputs_numbered : (net : Network) (m : ℕ)
    → list_all (λ e. nat_lt e (length net.events)) (inputs_of net m) ≡ true
inputs_numbered net m =
    elim
    (slice_get net.machines m) as (λ (o : Option Machine). slice_get net.machines m ≡ o
    → list_all (λ e. nat_lt e (length net.events))
    (unwrap_or (option_map (λ machine. machine.inputs) o) []) ≡ true) [
      | None ↦ λ e. refl
      | Some machine ↦ λ e.
          let all =
          all_get
          (is_numbered net.domains net.events) net.machines m machine net.numbered e in
          let inputs : Bool = list_all (λ e. nat_lt e (length net.events)) machine.inputs in
          let outputs : Bool = list_all (λ e. nat_lt e (length net.events)) machine.outputs in
          let states : Bool =
          list_all (λ state. nat_lt state.domain (length net.domains)) machine.states in
          (and_parts inputs outputs (and_parts (inputs && outputs) states all).0).0
    ] refl

pub read_is_event : (net : Network) (m e : ℕ) → reads net m e ≡ true → e < length net.events
read_is_event net m e h =
    ltb-true e (length net.events)
    (has_of_all (λ e. nat_lt e (length net.events)) (inputs_of net m) e (inputs_numbered net m) h)

pub receivers_are_readers : (net : Network) (e : ℕ) (event : EventDecl)
    → slice_get net.events e ≡ Some event
    → event.receivers ≡ places_where (λ machine. has machine.inputs e) net.machines
receivers_are_readers net e event h =
    (slice_eq-Decides Decides-eqb event.receivers
    (places_where (λ machine. has machine.inputs e) net.machines)
    (pointwise ◌==◌ event.receivers (places_where (λ machine. has machine.inputs e) net.machines))
    refl).0
    (passes_of_each (has_receivers net.machines) 0 e e net.events event
    (omega arith) net.receivers h)

-- among the receivers of an event a machine stands once where it reads it, and nowhere else
pub receivers_once : (net : Network) (m e : ℕ)
    → filter (λ k. k == m) (receivers_of net e) ≡ cond (reads net m e) (m ∷ []) []
receivers_once net m e =
    elim
    (slice_get net.events e) as (λ (o : Option EventDecl). slice_get net.events e ≡ o
    → filter (λ k. k == m) (unwrap_or (option_map (λ event. event.receivers) o) [])
    ≡ cond (reads net m e) (m ∷ []) []) [
      | None ↦ λ none.
          let no : reads net m e ≡ false =
          false_from_ne_true (reads net m e) (λ h. not_there none (read_is_event net m e h)) in
          rw no refl
      | Some event ↦ λ is.
          ap (filter (λ k. k == m)) (receivers_are_readers net e event is)
          ∙ places_at (λ machine. has machine.inputs e) 0 m m net.machines (omega arith)
          ∙ ap (λ b. cond b (m ∷ []) []) (reads_by_machine net m e)
    ] refl
  where
    not_there : slice_get net.events e ≡ None → e < length net.events → ⊥
    not_there none below = elim (slice_get_cases net.events e).1 [
      | inl (event, within, is, same) ↦ cc
      | inr (past, none) ↦ omega arith
    ]

-- ---- deliveries

abbrev owed : Party → ℕ → ℕ → ℕ → Owed
owed s e code m = record { from = s; to = m; event = e; code = code }

ways_of_event : (net : Network) (s t : Party) (m e c : ℕ)
    → map event_code (filter (is_way t m) (deliveries_of net s (e, c)))
    ≡ cond (same_party s t) (cond (reads net m e) ((e, c) ∷ []) []) []
ways_of_event net s t m e c =
    ap (map event_code) (filter_of_map (is_way t m) (owed s e c) (receivers_of net e))
    ∙ elim
    (same_party s t) as (λ b.
    map event_code (map (owed s e c) (filter (λ k. b && k == m) (receivers_of net e)))
    ≡ cond b (cond (reads net m e) ((e, c) ∷ []) []) []) [
      | true ↦ rw (receivers_once net m e) (once (reads net m e))
      | false ↦ rw (filter_nothing (receivers_of net e)) refl
    ]
  where
    once : (b : Bool)
        → map event_code (map (owed s e c) (cond b (m ∷ []) [])) ≡ cond b ((e, c) ∷ []) []
    once true = refl
    once false = refl

pub ways_of_emissions : (net : Network) (s t : Party) (m : ℕ) (ps : List (ℕ × ℕ))
    → map event_code (filter (is_way t m) (flat_map (deliveries_of net s) ps))
    ≡ cond (same_party s t) (filter (λ p. reads net m p.0) ps) []
ways_of_emissions net s t m [] = nothing (same_party s t)
  where
    nothing : (b : Bool) → ◌≡◌ {A = List (ℕ × ℕ)} [] (cond b [] [])
    nothing true = refl
    nothing false = refl
ways_of_emissions net s t m ((e, c) ∷ ps) =
    ap (map event_code)
    (filter-append (is_way t m) (deliveries_of net s (e, c)) (flat_map (deliveries_of net s) ps))
    ∙ map-append event_code (filter (is_way t m) (deliveries_of net s (e, c)))
    (filter (is_way t m) (flat_map (deliveries_of net s) ps))
    ∙ rw (ways_of_event net s t m e c, ways_of_emissions net s t m ps)
    (joined (same_party s t) (reads net m e))
  where
    joined : (a b : Bool)
        → cond a (cond b ((e, c) ∷ []) []) [] ++ cond a (filter (λ p. reads net m p.0) ps) []
        ≡ cond a
        (cond b ((e, c) ∷ filter (λ p. reads net m p.0) ps) (filter (λ p. reads net m p.0) ps)) []
    joined true true = refl
    joined true false = refl
    joined false b = refl

-- the deliveries that the firings of s give to m are what s has sent to m
pub machine_ways : (net : Network) (trace : List TraceItem) (s m : ℕ) (journal : List Entry)
    → map event_code (filter (is_way (Sender s) m) (machine_deliveries net journal))
    ≡ sent net trace (Sender s) m journal
machine_ways net trace s m [] = refl
machine_ways net trace s m (Dep from to e c ∷ journal) = machine_ways net trace s m journal
machine_ways net trace s m (Rea k x o ∷ journal) =
    ap (map event_code)
    (filter-append (is_way (Sender s) m)
    (flat_map (deliveries_of net (Sender k)) (emissions net (Rea k x o)))
    (machine_deliveries net journal))
    ∙ map-append event_code
    (filter (is_way (Sender s) m)
    (flat_map (deliveries_of net (Sender k)) (emissions net (Rea k x o))))
    (filter (is_way (Sender s) m) (machine_deliveries net journal))
    ∙ rw (
      ways_of_emissions net (Sender k) (Sender s) m
          (emissions net (Rea k x o)),
      machine_ways net trace s m journal,
    ) (joined (k == s) o.fires refl)
  where
    joined : (a b : Bool) → o.fires ≡ b
        → cond a (filter (λ p. reads net m p.0) (emissions net (Rea k x o))) []
        ++ sent net trace (Sender s) m journal
        ≡ filter (λ p. reads net m p.0)
        (flat_map (emissions net)
        (cond (a && b) (Rea k x o ∷ filter (is_firing_of s) journal)
        (filter (is_firing_of s) journal)))
    joined true true e =
        sym
        (filter-append (λ p. reads net m p.0) (emissions net (Rea k x o))
        (flat_map (emissions net) (filter (is_firing_of s) journal)))
    joined true false e = rw e refl
    joined false b e = refl

-- the deliveries that the trace gives to m are what the environment has sent to m
pub env_ways_from : (net : Network) (m : ℕ) (settled : Bool) (trace : List TraceItem)
    → map (λ (p : Owed × Bool). event_code p.0)
    (filter (λ (p : Owed × Bool). is_way Env m p.0) (trace_deliveries net settled trace))
    ≡ filter (λ p. reads net m p.0) (filter_map event_of trace)
env_ways_from net m settled [] = refl
env_ways_from net m settled (Settle ∷ items) = env_ways_from net m true items
env_ways_from net m settled (Event e c ∷ items) =
    ap (map (λ (p : Owed × Bool). event_code p.0))
    (filter-append (λ (p : Owed × Bool). is_way Env m p.0)
    (map (λ d. (d, settled)) (deliveries_of net Env (e, c))) (trace_deliveries net false items))
    ∙ map-append (λ (p : Owed × Bool). event_code p.0)
    (filter (λ (p : Owed × Bool). is_way Env m p.0)
    (map (λ d. (d, settled)) (deliveries_of net Env (e, c))))
    (filter (λ (p : Owed × Bool). is_way Env m p.0) (trace_deliveries net false items))
    ∙ rw (here, env_ways_from net m false items) (joined (reads net m e))
  where
    here : map (λ (p : Owed × Bool). event_code p.0)
        (filter (λ (p : Owed × Bool). is_way Env m p.0)
        (map (λ d. (d, settled)) (deliveries_of net Env (e, c))))
        ≡ cond (reads net m e) ((e, c) ∷ []) []
    here =
        ap (map (λ (p : Owed × Bool). event_code p.0))
        (filter_of_map (λ (p : Owed × Bool). is_way Env m p.0) (λ d. (d, settled))
        (deliveries_of net Env (e, c)))
        ∙ map_of_map (λ (p : Owed × Bool). event_code p.0) (λ d. (d, settled))
        (filter (is_way Env m) (deliveries_of net Env (e, c)))
        ∙ ways_of_event net Env Env m e c

    joined : (b : Bool)
        → cond b ((e, c) ∷ []) [] ++ filter (λ p. reads net m p.0) (filter_map event_of items)
        ≡ cond b ((e, c) ∷ filter (λ p. reads net m p.0) (filter_map event_of items))
        (filter (λ p. reads net m p.0) (filter_map event_of items))
    joined true = refl
    joined false = refl

pub env_ways : (net : Network) (trace : List TraceItem) (m : ℕ) (journal : List Entry)
    → map (λ (p : Owed × Bool). event_code p.0)
    (filter (λ (p : Owed × Bool). is_way Env m p.0) (trace_deliveries net false trace))
    ≡ sent net trace Env m journal
env_ways net trace m journal = env_ways_from net m false trace
