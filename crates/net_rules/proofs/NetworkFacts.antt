-- What a network keeps, where no rule is broken.
use Rattle.std.proofs.Common.{◌≡◌, ◌∙◌, ◌≤◌, ◌<◌, ◌-◌, ℕ, zero, suc, ◌+◌, Bool, true, false, not, ◌&&◌, ◌||◌, ◌==◌, nat_lt, List, [], ◌∷◌, ◌++◌, map, flat_map, find, length, drop, slice_get, option_to_list, Option, Some, None, is_some, unwrap_or, subst, ap, sym, true≢false, refl, arith}
use Rattle.std.proofs.lemmas.List.{length-map}
use Rattle.std.specs.Option.{option_map, option_and_then, option_map_or}
use Rattle.std.specs.List.{list_all, AllZip, enumerate_from}
use Rattle.std.specs.Cmp.Lexicographic.{nat_list_eq_equiv, pointwise}
use Rattle.domains.specs.Names.{is_same, are_distinct}
use Rattle.domains.specs.Domains.{size_of}
use Rattle.domains.specs.declared.domain.Domain.{Domain}
use Rattle.transition_table.specs.NetworkFacts.{has as has_number, are_different, values_of, event_values, has_vars, has_sender, senders, lists_once, has_outputs, is_numbered, has_domain}
use Rattle.transition_table.specs.declared.decl.EventDecl.{EventDecl}
use Rattle.transition_table.specs.declared.decl.StateDecl.{StateDecl}
use Rattle.transition_table.specs.declared.machine.Machine.{Machine}
use Rattle.net_reader.specs.declared.raw.Word.{Word}
use Rattle.net_reader.specs.declared.raw.RawShape.{RawShape}
use Rattle.net_reader.specs.declared.raw.RawShape.TheVariants as shapes
use Rattle.net_reader.specs.declared.raw.RawDomain.{RawDomain}
use Rattle.net_reader.specs.declared.raw.RawEvent.{RawEvent}
use Rattle.net_reader.specs.declared.raw.RawState.{RawState}
use Rattle.net_reader.specs.declared.raw.RawMachine.{RawMachine}
use Rattle.net_reader.specs.declared.raw.RawNet.{RawNet}
use Rattle.net_names.specs.Numbers.{names_of, is_among, is_name_of, missing, repeated, no_name, number}
use Rattle.net_names.specs.Values.{count_of}
use Rattle.net_names.specs.Scopes.{domain_words, event_words, machine_words, state_words, event_domain, count_at, event_codes, state_codes}
use Rattle.rule_judge.specs.Rules.{beyond}
use Rattle.net_rules.specs.Networks.{event_of, state_of, machines_with, IsDomainOf, IsMachineOf}
use Rattle.net_rules.specs.inner.Sound.{Each, IsSound, IsSoundMachine}
use Rattle.net_rules.proofs.NumbersOfNames.{places_with}
use Rattle.net_rules.proofs.HasReceivers.{first_nil, rest_nil, fresh, enumerated, name_at}
use Rattle.net_rules.proofs.Senders.{senders_kept}
use Rattle.net_names.proofs.NumberIn.{find_number}
use Rattle.net_rules.proofs.AreActions.{in_range, same_declared, first_known, rest_known, has_it}
use Rattle.net_rules.proofs.IsSound.{split_missing, each_missing}
use Rattle.net_rules.proofs.MachineFacts.{results_rest}
use Rattle.std.proofs.lemmas.Bool.{lt-ltb, not-true}
use Rattle.polis_base.proofs.Bools.{and_first, and_second, neither_first, neither_second}
use Rattle.polis_base.proofs.Places.{zip_length}

abbrev is_cons : List ℕ → Bool
is_cons [] = false
is_cons (x ∷ xs) = true

few_kept : (most : ℕ) (words : List Word) → beyond most words ≡ [] → length words ≤ most
few_kept most [] h = omega arith
few_kept zero (w ∷ words) h = absurd (true≢false (ap is_cons h))
few_kept (suc most) (w ∷ words) h = omega (arith, few_kept most words h)

event_names : (net : RawNet) (es : List RawEvent)
    → map (λ (event : EventDecl). event.name) (map (event_of net) es)
    ≡ names_of (map (λ (e : RawEvent). e.name) es)
event_names net [] = refl
event_names net (e ∷ es) = ap (λ l. e.name.name ∷ l) (event_names net es)

machine_names : (net : RawNet) (rs : List RawMachine) (ms : List Machine)
    → AllZip (IsMachineOf net) rs ms → map (λ (machine : Machine). machine.name) ms
    ≡ names_of (map (λ (m : RawMachine). m.name) rs)
machine_names net [] [] all = refl
machine_names net [] (m ∷ ms) all = absurd all
machine_names net (r ∷ rs) [] all = absurd all
machine_names net (r ∷ rs) (m ∷ ms) all = let rest = machine_names net rs ms all.1 in
    λ i. all.0.name i ∷ rest i

state_names : (net : RawNet) (ss : List RawState)
    → map (λ (state : StateDecl). state.name) (map (state_of net) ss)
    ≡ names_of (map (λ (s : RawState). s.name) ss)
state_names net [] = refl
state_names net (s ∷ ss) = ap (λ l. s.name.name ∷ l) (state_names net ss)

-- declared words have numbers in range
words_in : (declared : List Word) (n : ℕ) → n ≡ length declared → (ws : List Word)
    → missing (is_name_of declared) ws ≡ []
    → list_all (λ e. nat_lt e n) (map (λ (w : Word). number declared w.name) ws) ≡ true
words_in declared n long [] h = refl
words_in declared n long (w ∷ ws) h =
    let own = lt-ltb (number declared w.name) n
    (omega (arith, long, in_range declared w.name (first_known declared w ws h))) in
    let rest = words_in declared n long ws (rest_known declared w ws h) in
    λ i. own i && rest i

-- declared words with distinct names have different numbers
none_same : (declared : List Word) (w : Word) → is_name_of declared w.name ≡ true → (ws : List Word)
    → missing (is_name_of declared) ws ≡ [] → is_among (names_of ws) w.name ≡ false
    → has_number (map (λ (w : Word). number declared w.name) ws) (number declared w.name) ≡ false
none_same declared w there [] h apart = refl
none_same declared w there (x ∷ ws) h apart =
    let own = same_declared declared x.name w.name (first_known declared x ws h) there
    ∙ nat_list_eq_equiv.symm x.name w.name
    ∙ neither_first (is_same w.name x.name) (is_among (names_of ws) w.name) apart in
    let rest = none_same declared w there ws (rest_known declared x ws h)
    (neither_second (is_same w.name x.name) (is_among (names_of ws) w.name) apart) in
    λ i. own i || rest i

all_different : (declared ws : List Word) → missing (is_name_of declared) ws ≡ []
    → are_distinct (names_of ws) ≡ true
    → are_different (map (λ (w : Word). number declared w.name) ws) ≡ true
all_different declared [] h once = refl
all_different declared (w ∷ ws) h once =
    let apart = not-true (is_among (names_of ws) w.name)
    (and_first (not (is_among (names_of ws) w.name)) (are_distinct (names_of ws)) once) in
    let own = none_same declared w (first_known declared w ws h) ws (rest_known declared w ws h)
    apart in
    let rest = all_different declared ws (rest_known declared w ws h)
    (and_second (not (is_among (names_of ws) w.name)) (are_distinct (names_of ws)) once) in
    λ i. not (own i) && rest i

get_map : {A B : Type 0} (f : A → B) (xs : List A) (k : ℕ)
    → slice_get (map f xs) k ≡ option_map f (slice_get xs k)
get_map f [] k = refl
get_map f (x ∷ xs) zero = refl
get_map f (x ∷ xs) (suc k) = get_map f xs k

-- a domain has as many values as its shape
size_is : (shape : RawShape) (d : Domain) → IsDomainOf shape d → size_of d ≡ count_of shape
size_is (shapes.Names words) d h = ap size_of h ∙ length-map words (λ (w : Word). w.name)
size_is (shapes.Range first last) d h = ap size_of h.1 ∙ (λ i. h.3 i - h.2 i + 1)

sizes_at : (ds : List RawDomain) (made : List Domain)
    → AllZip (λ (d : RawDomain). IsDomainOf d.shape) ds made → (k : ℕ)
    → option_map size_of (slice_get made k)
    ≡ option_map (λ (d : RawDomain). count_of d.shape) (slice_get ds k)
sizes_at [] [] all k = refl
sizes_at [] (d ∷ made) all k = absurd all
sizes_at (r ∷ ds) [] all k = absurd all
sizes_at (r ∷ ds) (d ∷ made) all zero = ap Some (size_is r.shape d all.0)
sizes_at (r ∷ ds) (d ∷ made) all (suc k) = sizes_at ds made all.1 k

module _ (net : RawNet) (sound : IsSound net) where
  pub few_domains : length (domain_words net) ≤ 64
  few_domains = few_kept 64 (domain_words net)
      (first_nil (beyond 64 (domain_words net)) (beyond 256 (event_words net))
      (first_nil (beyond 64 (domain_words net) ++ beyond 256 (event_words net))
      (beyond 64 (machine_words net)) sound.few))

  pub few_events : length (event_words net) ≤ 256
  few_events = few_kept 256 (event_words net)
      (rest_nil (beyond 64 (domain_words net)) (beyond 256 (event_words net))
      (first_nil (beyond 64 (domain_words net) ++ beyond 256 (event_words net))
      (beyond 64 (machine_words net)) sound.few))

  pub few_machines : length (machine_words net) ≤ 64
  few_machines = few_kept 64 (machine_words net)
      (rest_nil (beyond 64 (domain_words net) ++ beyond 256 (event_words net))
      (beyond 64 (machine_words net)) sound.few)

  pub domain_count : length net.domains ≤ 64
  domain_count = omega (arith, few_domains, length-map net.domains (λ (d : RawDomain). d.name))

  pub event_count : length net.events ≤ 256
  event_count = omega (arith, few_events, length-map net.events (λ (e : RawEvent). e.name))

  pub machine_count : length net.machines ≤ 64
  machine_count = omega (arith, few_machines, length-map net.machines (λ (m : RawMachine). m.name))

  events_once : repeated no_name (event_words net) ≡ []
  events_once = rest_nil (repeated no_name (domain_words net)) (repeated no_name (event_words net))
      (first_nil (repeated no_name (domain_words net) ++ repeated no_name (event_words net))
      (repeated no_name (machine_words net)) sound.names)

  machines_once : repeated no_name (machine_words net) ≡ []
  machines_once =
      rest_nil (repeated no_name (domain_words net) ++ repeated no_name (event_words net))
      (repeated no_name (machine_words net)) sound.names

  pub event_names_kept : are_distinct
      (map (λ (event : EventDecl). event.name) (map (event_of net) net.events)) ≡ true
  event_names_kept = ap are_distinct (event_names net net.events)
      ∙ (fresh no_name (event_words net) events_once).distinct

  pub machine_names_kept : (ms : List Machine) → AllZip (IsMachineOf net) net.machines ms
      → are_distinct (map (λ (machine : Machine). machine.name) ms) ≡ true
  machine_names_kept ms all = ap are_distinct (machine_names net net.machines ms all)
      ∙ (fresh no_name (machine_words net) machines_once).distinct

  module _ (made : List Domain) (domains :
      AllZip (λ (d : RawDomain). IsDomainOf d.shape) net.domains made) where
    made_long : length made ≡ length (domain_words net)
    made_long = zip_length (λ (d : RawDomain). IsDomainOf d.shape) net.domains made domains
        ∙ sym (length-map net.domains (λ (d : RawDomain). d.name))

    domained : (es : List RawEvent)
        → missing (is_name_of (domain_words net))
        (flat_map (λ (e : RawEvent). option_to_list e.domain) es) ≡ []
        → list_all (has_domain made) (map (event_of net) es) ≡ true
    domained [] h = refl
    domained (e ∷ es) h =
        let split = split_missing (is_name_of (domain_words net)) (option_to_list e.domain)
        (flat_map (λ (e : RawEvent). option_to_list e.domain) es) h in
        let first = own e.domain
        (first_nil (missing (is_name_of (domain_words net)) (option_to_list e.domain))
        (missing (is_name_of (domain_words net))
        (flat_map (λ (e : RawEvent). option_to_list e.domain) es)) split) in
        let rest = domained es
        (rest_nil (missing (is_name_of (domain_words net)) (option_to_list e.domain))
        (missing (is_name_of (domain_words net))
        (flat_map (λ (e : RawEvent). option_to_list e.domain) es)) split) in
        λ i. first i && rest i
      where
        own : (o : Option Word) → missing (is_name_of (domain_words net)) (option_to_list o) ≡ []
            → option_map_or (λ d. nat_lt d (length made))
            (option_map (λ (w : Word). number (domain_words net) w.name) o) true ≡ true
        own None h = refl
        own (Some w) h =
            lt-ltb (number (domain_words net) w.name) (length made)
            (omega (
              arith,
              made_long,
              in_range (domain_words net) w.name
                  (first_known (domain_words net) w [] h),
            ))

    pub event_domains_kept : list_all (has_domain made) (map (event_of net) net.events) ≡ true
    event_domains_kept = domained net.events sound.events

    -- the values of the domain of a declared name, and one where none is named
    domain_values : (o : Option Word) → missing (is_name_of (domain_words net)) (option_to_list o)
        ≡ [] → values_of made (option_map (λ (w : Word). number (domain_words net) w.name) o)
        ≡ count_at net o
    domain_values None h = refl
    domain_values (Some w) h =
        ap (λ o. unwrap_or o 0)
        (sizes_at net.domains made domains (number (domain_words net) w.name)
        ∙ ap (option_map (λ (d : RawDomain). count_of d.shape))
        (sym (find_number (λ (d : RawDomain). d.name) w.name net.domains
        ∙ ap (option_and_then (slice_get net.domains))
        (has_it (domain_words net) w.name (first_known (domain_words net) w [] h))))
        ∙ twice (find (λ (d : RawDomain). is_same w.name d.name.name) net.domains))
      where
        twice : (o : Option RawDomain) → option_map (λ (d : RawDomain). count_of d.shape) o
            ≡ option_map count_of (option_map (λ (d : RawDomain). d.shape) o)
        twice None = refl
        twice (Some d) = refl

    event_values_are : (w : Word) → is_name_of (event_words net) w.name ≡ true
        → event_values made (map (event_of net) net.events) (number (event_words net) w.name)
        ≡ count_at net (event_domain net w.name)
    event_values_are w there =
        ap (λ o. unwrap_or (option_map (λ (event : EventDecl). values_of made event.domain) o) 0)
        (get_map (event_of net) net.events k)
        ∙ by (slice_get net.events k) refl
        ∙ ap (λ o. count_at net (option_and_then (λ (e : RawEvent). e.domain) o)) (sym found)
      where
        k : ℕ
        k = number (event_words net) w.name

        found : find (λ (e : RawEvent). is_same w.name e.name.name) net.events
            ≡ slice_get net.events (number (event_words net) w.name)
        found = find_number (λ (e : RawEvent). e.name) w.name net.events
            ∙ ap (option_and_then (slice_get net.events)) (has_it (event_words net) w.name there)

        below : number (event_words net) w.name < length net.events
        below = omega (
          arith,
          in_range (event_words net) w.name there,
          length-map net.events (λ (e : RawEvent). e.name),
        )

        by : (o : Option RawEvent) → slice_get net.events (number (event_words net) w.name) ≡ o
            → unwrap_or (option_map (λ (event : EventDecl). values_of made event.domain)
            (option_map (event_of net) o)) 0 ≡ count_at net
            (option_and_then (λ (e : RawEvent). e.domain) o)
        by None e = absurd (past net.events (number (event_words net) w.name) below e)
          where
            past : (es : List RawEvent) (i : ℕ) → i < length es → slice_get es i ≡ None → ⊥
            past [] i l e = absurd (omega (arith, l))
            past (x ∷ es) zero l e = true≢false (ap is_some e)
            past (x ∷ es) (suc i) l e = past es i (omega (arith, l)) e
        by (Some event) e =
            domain_values event.domain
            (each_missing (is_name_of (domain_words net))
            (λ (e : RawEvent). option_to_list e.domain) net.events sound.events
            (number (event_words net) w.name) event e)

    events_part : (ws : List Word) → missing (is_name_of (event_words net)) ws ≡ []
        → map (event_codes net) ws
        ≡ map (λ e. 1 + event_values made (map (event_of net) net.events) e)
        (map (λ (w : Word). number (event_words net) w.name) ws)
    events_part [] h = refl
    events_part (w ∷ ws) h =
        let own = event_values_are w (first_known (event_words net) w ws h) in
        let rest = events_part ws (rest_known (event_words net) w ws h) in
        λ i. (1 + sym own i) ∷ rest i

    states_part : (ss : List RawState)
        → missing (is_name_of (domain_words net)) (map (λ (s : RawState). s.domain) ss) ≡ []
        → map (state_codes net) ss ≡ map (λ (state : StateDecl). values_of made (Some state.domain))
        (map (state_of net) ss)
    states_part [] h = refl
    states_part (s ∷ ss) h =
        let own = domain_values (Some s.domain)
        (first_nil (missing (is_name_of (domain_words net)) (s.domain ∷ []))
        (missing (is_name_of (domain_words net)) (map (λ (s : RawState). s.domain) ss))
        (split_missing (is_name_of (domain_words net)) (s.domain ∷ [])
        (map (λ (s : RawState). s.domain) ss) h)) in
        let rest = states_part ss
        (rest_known (domain_words net) s.domain (map (λ (s : RawState). s.domain) ss) h) in
        λ i. sym own i ∷ rest i

    states_in : (ss : List RawState)
        → missing (is_name_of (domain_words net)) (map (λ (s : RawState). s.domain) ss) ≡ []
        → list_all (λ (state : StateDecl). nat_lt state.domain (length made))
        (map (state_of net) ss) ≡ true
    states_in [] h = refl
    states_in (s ∷ ss) h =
        let own = lt-ltb (number (domain_words net) s.domain.name) (length made)
        (omega (
          arith,
          made_long,
          in_range (domain_words net) s.domain.name
              (first_known (domain_words net) s.domain (map (λ (s : RawState). s.domain) ss) h),
        )) in
        let rest = states_in ss
        (rest_known (domain_words net) s.domain (map (λ (s : RawState). s.domain) ss) h) in
        λ i. own i && rest i

    -- what one machine keeps
    pub record Keeps (m : Machine) : Type 0 where
      pub numbered : is_numbered made (map (event_of net) net.events) m ≡ true
      pub once : lists_once m ≡ true
      pub vars : has_vars made (map (event_of net) net.events) m ≡ true
      pub outputs : has_outputs made (map (event_of net) net.events) m ≡ true

    keeps : (r : RawMachine) (m : Machine) → IsSoundMachine net r → IsMachineOf net r m → Keeps m
    keeps r m kept is =
        let declared = event_words net in
        let ports = split_missing (is_name_of declared) r.inputs r.outputs kept.ports in
        let ins = first_nil (missing (is_name_of declared) r.inputs)
        (missing (is_name_of declared) r.outputs) ports in
        let outs = rest_nil (missing (is_name_of declared) r.inputs)
        (missing (is_name_of declared) r.outputs) ports in
        let long : length (map (event_of net) net.events) ≡ length (event_words net) =
        length-map net.events (event_of net)
        ∙ sym (length-map net.events (λ (e : RawEvent). e.name)) in
        let pair = first_nil (repeated no_name r.inputs ++ repeated no_name r.outputs)
        (repeated (is_name_of (r.inputs ++ r.outputs)) (state_words r)) kept.once in
        let third = rest_nil (repeated no_name r.inputs ++ repeated no_name r.outputs)
        (repeated (is_name_of (r.inputs ++ r.outputs)) (state_words r)) kept.once in
        let events = map (event_of net) net.events in
        let in-ok = ap (list_all (λ e. nat_lt e (length events))) is.inputs
        ∙ words_in declared (length events) long r.inputs ins in
        let out-ok = ap (list_all (λ e. nat_lt e (length events))) is.outputs
        ∙ words_in declared (length events) long r.outputs outs in
        let state-ok = ap (list_all (λ (state : StateDecl). nat_lt state.domain (length made)))
        is.states ∙ states_in r.states kept.domains in
        let in-once = ap are_different is.inputs
        ∙ all_different declared r.inputs ins
        (fresh no_name r.inputs
        (first_nil (repeated no_name r.inputs) (repeated no_name r.outputs) pair)).distinct in
        let out-once = ap are_different is.outputs
        ∙ all_different declared r.outputs outs
        (fresh no_name r.outputs
        (rest_nil (repeated no_name r.inputs) (repeated no_name r.outputs) pair)).distinct in
        let state-once =
        ap (λ l. are_distinct (map (λ (state : StateDecl). state.name) l)) is.states
        ∙ ap are_distinct (state_names net r.states)
        ∙ (fresh (is_name_of (r.inputs ++ r.outputs)) (state_words r) third).distinct in
        record {
          numbered = λ i. in-ok i && out-ok i && state-ok i;
          once = λ i. in-once i && out-once i && state-once i;
          vars = (λ i. pointwise ◌==◌ (is.vars i)
              (map (λ e. 1 + event_values made events e) (is.inputs i)
              ++ map (λ (state : StateDecl). values_of made (Some state.domain)) (is.states i)))
              ∙ (λ i. pointwise ◌==◌ (events_part r.inputs ins i
              ++ states_part r.states kept.domains i)
              (map (λ e. 1 + event_values made events e)
              (map (λ (w : Word). number declared w.name) r.inputs)
              ++ map (λ (state : StateDecl). values_of made (Some state.domain))
              (map (state_of net) r.states)))
              ∙ nat_list_eq_equiv.refl
              (map (λ e. 1 + event_values made events e)
              (map (λ (w : Word). number declared w.name) r.inputs)
              ++ map (λ (state : StateDecl). values_of made (Some state.domain))
              (map (state_of net) r.states));
          outputs = (λ i. pointwise ◌==◌ (drop (1 + length (is.states i)) (is.results i))
              (map (λ e. 1 + event_values made events e) (is.outputs i)))
              ∙ ap (λ l. pointwise ◌==◌ l
              (map (λ e. 1 + event_values made events e)
              (map (λ (w : Word). number declared w.name) r.outputs)))
              (results_rest net r sound kept ∙ events_part r.outputs outs)
              ∙ nat_list_eq_equiv.refl
              (map (λ e. 1 + event_values made events e)
              (map (λ (w : Word). number declared w.name) r.outputs));
        }

    -- a test that each machine passes
    pub all_keep : (test : Machine → Bool) → ((m : Machine) → Keeps m → test m ≡ true)
        → (rs : List RawMachine) (ms : List Machine) → Each (IsSoundMachine net) rs
        → AllZip (IsMachineOf net) rs ms → list_all test ms ≡ true
    all_keep test own [] [] each all = refl
    all_keep test own [] (m ∷ ms) each all = absurd all
    all_keep test own (r ∷ rs) [] each all = absurd all
    all_keep test own (r ∷ rs) (m ∷ ms) each all =
        let first = own m (keeps r m (each 0 r refl) all.0) in
        let rest = all_keep test own rs ms (λ i x at. each (suc i) x at) all.1 in
        λ i. first i && rest i

  outputs_numbered : (rs : List RawMachine) (ms : List Machine) → AllZip (IsMachineOf net) rs ms
      → flat_map (λ (m : RawMachine). missing (is_name_of (event_words net))
      (m.inputs ++ m.outputs)) rs ≡ []
      → AllZip (λ r m. (m.outputs ≡ map (λ (w : Word). number (event_words net) w.name) r.outputs)
      × (missing (is_name_of (event_words net)) r.outputs ≡ [])) rs ms
  outputs_numbered [] [] all none = all
  outputs_numbered [] (m ∷ ms) all none = absurd all
  outputs_numbered (r ∷ rs) [] all none = absurd all
  outputs_numbered (r ∷ rs) (m ∷ ms) all none =
      let declared = is_name_of (event_words net) in
      let own = first_nil (missing declared (r.inputs ++ r.outputs))
      (flat_map (λ (m : RawMachine). missing declared (m.inputs ++ m.outputs)) rs) none in
      let later = rest_nil (missing declared (r.inputs ++ r.outputs))
      (flat_map (λ (m : RawMachine). missing declared (m.inputs ++ m.outputs)) rs) none in (
        (
          all.0.outputs,
          rest_nil (missing declared r.inputs) (missing declared r.outputs)
              (split_missing declared r.inputs r.outputs own),
        ),
        outputs_numbered rs ms all.1 later,
      )

  -- an event's sender is the one machine that has its number as an output
  pub all_senders : (ms : List Machine) → AllZip (IsMachineOf net) net.machines ms
      → list_all (has_sender ms) (enumerate_from 0 (map (event_of net) net.events)) ≡ true
  all_senders ms all = enumerated (event_of net) (has_sender ms) net.events 0 each
    where
      each : (i : ℕ) (e : RawEvent) → slice_get net.events i ≡ Some e
          → has_sender ms (0 + i, event_of net e) ≡ true
      each i e at =
          let same = places_with (event_words net)
          (fresh no_name (event_words net) events_once).distinct i e.name.name
          (name_at net.events i e at) (λ r. r.outputs) (λ m. m.outputs) 0 net.machines ms
          (outputs_numbered net.machines ms all sound.ports) in
          subst (λ n. has_sender ms (n, event_of net e) ≡ true) (zero_sum i)
          (ap (λ l. pointwise ◌==◌ (senders (event_of net e).sender) l) same
          ∙ ap (λ l. pointwise ◌==◌ l
          (machines_with (λ (m : RawMachine). m.outputs) net e.name.name))
          (senders_kept net e.name.name sound.senders)
          ∙ nat_list_eq_equiv.refl (machines_with (λ (m : RawMachine). m.outputs) net e.name.name))
        where
          zero_sum : (i : ℕ) → i ≡ 0 + i
          zero_sum i = omega arith
