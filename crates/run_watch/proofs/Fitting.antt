-- What a monitor hears of a journal of the network is a trace of the monitor.
use Rattle.std.proofs.Common.{◌≡◌, ℕ, zero, suc, Bool, true, false, not, ◌&&◌, ◌||◌, nat_le, nat_lt, List, [], ◌∷◌, map, filter_map, flat_map, length, get_or, slice_get, Option, Some, None, option_map, unwrap_or, refl, sym, ap, ◌∙◌, subst}
use Rattle.std.specs.List.{list_all, list_any}
use Rattle.std.proofs.lemmas.Bool.{and_from, and_parts, false≢true, lt-ltb, ltb-true, not-true}
use Rattle.std.proofs.lemmas.List.Folds.{list_all-map}
use Rattle.std.proofs.lemmas.Option.{none-some, slice_get-get_or, slice_get-map, slice_get_within}
use Rattle.polis_base.specs.Lists.{head_of}
use Rattle.polis_base.proofs.AllPass.{all_pass}
use Rattle.polis_base.proofs.Found.{find_is}
use Rattle.domains.specs.Names.{are_distinct, is_same}
use Rattle.domains.proofs.Names.{same_self, same_texts}
use Rattle.polis_base.specs.declared.limits.TheConstants.{ENTRIES_MAX}
use Rattle.transition_table.specs.NetworkFacts.{event_values, values_of}
use Rattle.transition_table.specs.NetworkNames.{event_name}
use Rattle.transition_table.specs.declared.decl.EventDecl.{EventDecl}
use Rattle.transition_table.specs.declared.decl.Party.TheVariants.{Env}
use Rattle.transition_table.specs.declared.network.Network.{Network}
use Rattle.transition_table.specs.EventWords.{event_words}
use Rattle.transition_table.proofs.EventWords.{count_of, counted}
use Rattle.journals.specs.declared.entry.Entry.{Entry}
use Rattle.journals.specs.declared.entry.Entry.TheVariants.{Dep, Rea}
use Rattle.journals.specs.declared.entry.TraceItem.TheVariants.{Event}
use Rattle.journals.specs.Journals.{IsJournal, IsTrace, emissions, is_event_code, is_trace_item, same_party}
use Rattle.journals.specs.Outputs.{goes_out, outputs}
use Rattle.journals.proofs.DeliveredBeginsSent.{party_from_same}
use Rattle.journals.proofs.FitsNetwork.{emissions_fit}
use Rattle.run_watch.specs.Emissions.{placed_outputs}
use Rattle.run_watch.specs.Hearings.{IsHearing}
use Rattle.run_watch.specs.Laws.{TraceFits, items_as, items_of}
use Rattle.run_watch.specs.Monitors.{HasOutput, IsMonitor, heard, heard_by, hears, hears_at, settled, watched}
use Rattle.run_watch.specs.Watches.{IsAnswer, IsAnswerTo}
use Rattle.run_watch.specs.declared.answer.Watched.{Watched}
use Rattle.run_watch.specs.declared.emission.Emission.{Emission}
use Rattle.run_watch.specs.declared.hearing.Hearing.{Hearing}
use Rattle.run_watch.specs.inner.Hearings.{looked_up}
use Rattle.run_watch.proofs.Hears.{heard_same, trace_tells_outputs}
use Rattle.run_watch.proofs.Placed.{event_code, placed_are_outputs}
use Rattle.polis_base.proofs.ListTests.{all_filtered}
use Rattle.polis_base.proofs.Lists.{all_append}

-- ---- outputs have codes of their events

emitted_fit : (net : Network) (journal : List Entry) → IsJournal net journal
    → list_all (λ (p : ℕ × ℕ). is_event_code net p.0 p.1) (flat_map (emissions net) journal)
    ≡ true
emitted_fit net [] fits = refl
emitted_fit net (Dep s m e c ∷ journal) fits = emitted_fit net journal fits.1
emitted_fit net (Rea m s o ∷ journal) fits =
    all_append (λ (p : ℕ × ℕ). is_event_code net p.0 p.1) (emissions net (Rea m s o))
    (flat_map (emissions net) journal) (emissions_fit net m s o fits.0).1
    (emitted_fit net journal fits.1)

pub outputs_fit : (net : Network) (journal : List Entry) → IsJournal net journal
    → list_all (λ (p : ℕ × ℕ). is_event_code net p.0 p.1) (outputs net journal) ≡ true
outputs_fit net journal fits =
    all_filtered (λ (p : ℕ × ℕ). is_event_code net p.0 p.1) (λ (p : ℕ × ℕ). goes_out net p.0)
    (flat_map (emissions net) journal) (emitted_fit net journal fits)

placed_fit : (net : Network) (journal : List Entry) → IsJournal net journal
    → list_all (λ (x : Emission). is_event_code net x.event x.code) (placed_outputs net journal)
    ≡ true
placed_fit net journal fits =
    sym
    (list_all-map (λ (p : ℕ × ℕ). is_event_code net p.0 p.1) event_code
    (placed_outputs net journal))
    ∙ ap (list_all (λ (p : ℕ × ℕ). is_event_code net p.0 p.1)) (placed_are_outputs net journal)
    ∙ outputs_fit net journal fits

code_within : (net : Network) (e c : ℕ) → is_event_code net e c ≡ true
    → nat_lt e (length net.events) ≡ true
code_within net e c is =
    (and_parts (nat_lt e (length net.events)) (nat_le 1 c)
    (and_parts (nat_lt e (length net.events) && nat_le 1 c)
    (nat_le c (event_values net.domains net.events e)) is).0).0

pub placed_numbered : (net : Network) (journal : List Entry) → IsJournal net journal
    → list_all (λ (x : Emission). nat_lt x.event (length net.events)) (placed_outputs net journal)
    ≡ true
placed_numbered net journal fits =
    all_pass (λ (x : Emission). is_event_code net x.event x.code)
    (λ (x : Emission). nat_lt x.event (length net.events))
    (λ x is. code_within net x.event x.code is) (placed_outputs net journal)
    (placed_fit net journal fits)

pub first_fits : (net : Network) (journal : List Entry) (x : Emission) → IsJournal net journal
    → head_of (placed_outputs net journal) ≡ Some x → is_event_code net x.event x.code ≡ true
first_fits net journal x fits first =
    passes (placed_outputs net journal) (placed_fit net journal fits) first
  where
    passes : (xs : List Emission)
        → list_all (λ (x : Emission). is_event_code net x.event x.code) xs ≡ true
        → head_of xs ≡ Some x → is_event_code net x.event x.code ≡ true
    passes [] all at = cc
    passes (y ∷ ys) all at =
        let same : y ≡ x = cc in
        subst (λ (z : Emission). is_event_code net z.event z.code ≡ true) same
        (and_parts (is_event_code net y.event y.code)
        (list_all (λ (x : Emission). is_event_code net x.event x.code) ys) all).0

-- ---- distinct names

or_true : (b : Bool) → (b || true) ≡ true
or_true true = refl
or_true false = refl

among : (names : List (List ℕ)) (k : ℕ) (name : List ℕ) → slice_get names k ≡ Some name
    → list_any (is_same name) names ≡ true
among [] k name at = absurd (none-some name at)
among (first ∷ names) zero name at =
    let same : first ≡ name = cc in
    rw same (ap (λ b. b || list_any (is_same name) names) (same_self name))
among (first ∷ names) (suc k) name at =
    ap (λ b. is_same name first || b) (among names k name at) ∙ or_true (is_same name first)

twice : (first : List ℕ) (names : List (List ℕ)) (j : ℕ) (name : List ℕ)
    → are_distinct (first ∷ names) ≡ true → Some first ≡ Some name
    → slice_get names j ≡ Some name → ⊥
twice first names j name distinct here there =
    let same : first ≡ name = cc in
    false≢true
    (sym
    (not-true (list_any (is_same first) names)
    (and_parts (not (list_any (is_same first) names)) (are_distinct names) distinct).0)
    ∙ ap (λ (n : List ℕ). list_any (is_same n) names) same ∙ among names j name there)

-- a name stands at one place
distinct_at : (names : List (List ℕ)) (i j : ℕ) (name : List ℕ) → are_distinct names ≡ true
    → slice_get names i ≡ Some name → slice_get names j ≡ Some name → i ≡ j
distinct_at [] i j name distinct here there = absurd (none-some name here)
distinct_at (first ∷ names) zero zero name distinct here there = refl
distinct_at (first ∷ names) zero (suc j) name distinct here there =
    absurd (twice first names j name distinct here there)
distinct_at (first ∷ names) (suc i) zero name distinct here there =
    absurd (twice first names i name distinct there here)
distinct_at (first ∷ names) (suc i) (suc j) name distinct here there =
    ap suc
    (distinct_at names i j name
    (and_parts (not (list_any (is_same first) names)) (are_distinct names) distinct).1 here there)

event_at : (net : Network) (k : ℕ) (event : EventDecl) → slice_get net.events k ≡ Some event
    → slice_get (map (λ (event : EventDecl). event.name) net.events) k ≡ Some event.name
event_at net k event at =
    slice_get-map (λ (event : EventDecl). event.name) net.events k
    ∙ ap (option_map (λ (event : EventDecl). event.name)) at

-- two events of one name are one
one_event : (net : Network) (i j : ℕ) (x y : EventDecl) → slice_get net.events i ≡ Some x
    → slice_get net.events j ≡ Some y → x.name ≡ y.name → x ≡ y
one_event net i j x y here there same =
    let place : i ≡ j =
    distinct_at (map (λ (event : EventDecl). event.name) net.events) i j y.name net.event_names
    (event_at net i x here ∙ ap Some same) (event_at net j y there) in
    let both : Some x ≡ Some y = sym here ∙ ap (slice_get net.events) place ∙ there in
    cc

-- ---- items

-- values of the same words are as many
values_same : (net monitor : Network) (x y : EventDecl) → event_words net x ≡ event_words monitor y
    → values_of net.domains x.domain ≡ values_of monitor.domains y.domain
values_same net monitor x y same =
    sym (counted net x.domain) ∙ ap count_of same ∙ counted monitor y.domain

-- an event that the environment sends, which is heard of an event of the network
record Heard (net monitor : Network) (e w : ℕ) : Type 0 where
  event : EventDecl
  output : EventDecl
  event_is : slice_get monitor.events w ≡ Some event
  output_is : slice_get net.events e ≡ Some output
  from_env : same_party event.sender Env ≡ true
  name : event.name ≡ output.name

heard_event : (net monitor : Network) (e w : ℕ) → nat_lt e (length net.events) ≡ true
    → watched net monitor e ≡ Some w → Heard net monitor e w
heard_event net monitor e w low is =
    at_event (slice_get monitor.events w) refl
    (find_is (hears_at monitor (event_name net e)) (length monitor.events) w is).1
  where
    at_event : (o : Option EventDecl) → slice_get monitor.events w ≡ o
        → hears_at monitor (event_name net e) w ≡ true → Heard net monitor e w
    at_event None is found =
        absurd
        (false≢true
        (sym
        (ap (λ (o : Option EventDecl). unwrap_or (option_map (hears (event_name net e)) o) false)
        is)
        ∙ found))
    at_event (Some event) is found =
        let parts =
        and_parts (same_party event.sender Env) (is_same event.name (event_name net e))
        (sym
        (ap (λ (o : Option EventDecl). unwrap_or (option_map (hears (event_name net e)) o) false)
        is)
        ∙ found) in
        let there : slice_get net.events e ≡ Some (get_or net.events e event) =
        slice_get-get_or net.events e event (ltb-true e (length net.events) low) in
        record {
          event = event;
          output = get_or net.events e event;
          event_is = is;
          output_is = there;
          from_env = parts.0;
          name =
              same_texts event.name (event_name net e) parts.1
              ∙ ap
              (λ (o : Option EventDecl). unwrap_or
              (option_map (λ (event : EventDecl). event.name) o) []) there;
        }

item_fits : (net monitor : Network) (e c w : ℕ) → IsMonitor net monitor
    → is_event_code net e c ≡ true → watched net monitor e ≡ Some w
    → is_trace_item monitor (Event w c) ≡ true
item_fits net monitor e c w may code is =
    and_from (is_event_code monitor w c)
    (unwrap_or
    (option_map (λ (event : EventDecl). same_party event.sender Env) (slice_get monitor.events w))
    false)
    (and_from (nat_lt w (length monitor.events) && nat_le 1 c)
    (nat_le c (event_values monitor.domains monitor.events w))
    (and_from (nat_lt w (length monitor.events)) (nat_le 1 c)
    (lt-ltb w (length monitor.events) (slice_get_within monitor.events w h.event h.event_is))
    (and_parts (nat_lt e (length net.events)) (nat_le 1 c) parts.0).1)
    (ap (nat_le c) (sym values) ∙ parts.1))
    (ap
    (λ (o : Option EventDecl). unwrap_or
    (option_map (λ (event : EventDecl). same_party event.sender Env) o) false) h.event_is
    ∙ h.from_env)
  where
    parts : ((nat_lt e (length net.events) && nat_le 1 c) ≡ true)
        × (nat_le c (event_values net.domains net.events e) ≡ true)
    parts =
        and_parts (nat_lt e (length net.events) && nat_le 1 c)
        (nat_le c (event_values net.domains net.events e)) code

    h : Heard net monitor e w
    h = heard_event net monitor e w (code_within net e c code) is

    output : HasOutput net monitor h.event
    output = may w h.event h.event_is (party_from_same h.event.sender Env h.from_env)

    same : output.output ≡ h.output
    same =
        one_event net output.number e output.output h.output output.there h.output_is
        (output.heard.name ∙ h.name)

    values : event_values net.domains net.events e
        ≡ event_values monitor.domains monitor.events w
    values =
        ap
        (λ (o : Option EventDecl). unwrap_or
        (option_map (λ (event : EventDecl). values_of net.domains event.domain) o) 0) h.output_is
        ∙ values_same net monitor h.output h.event
        (ap (event_words net) (sym same) ∙ output.heard.words)
        ∙ sym
        (ap
        (λ (o : Option EventDecl). unwrap_or
        (option_map (λ (event : EventDecl). values_of monitor.domains event.domain) o) 0)
        h.event_is)

items_fit : (net monitor : Network) (ps : List (ℕ × ℕ)) → IsMonitor net monitor
    → list_all (λ (p : ℕ × ℕ). is_event_code net p.0 p.1) ps ≡ true
    → list_all (is_trace_item monitor) (flat_map (items_of net monitor) ps) ≡ true
items_fit net monitor [] may all = refl
items_fit net monitor ((e, c) ∷ ps) may all =
    let parts =
    and_parts (is_event_code net e c)
    (list_all (λ (p : ℕ × ℕ). is_event_code net p.0 p.1) ps) all in
    all_append (is_trace_item monitor) (items_as (watched net monitor e) c)
    (flat_map (items_of net monitor) ps) (cases (watched net monitor e) refl parts.0)
    (items_fit net monitor ps may parts.1)
  where
    cases : (o : Option ℕ) → watched net monitor e ≡ o → is_event_code net e c ≡ true
        → list_all (is_trace_item monitor) (items_as o c) ≡ true
    cases None is code = refl
    cases (Some w) is code =
        and_from (is_trace_item monitor (Event w c)) true (item_fits net monitor e c w may code is)
        refl

pub trace_fits : TraceFits
trace_fits net monitor journal may fits =
    subst (IsTrace monitor) (sym (trace_tells_outputs net monitor journal))
    (items_fit net monitor (outputs net journal) may (outputs_fit net journal fits))

-- ---- by what was looked up

pub heard_is : (net monitor : Network) (hearing : Hearing) (journal : List Entry)
    (xs : List Emission) → IsHearing net monitor hearing → IsJournal net journal
    → xs ≡ filter_map (heard_by (looked_up hearing.events)) (placed_outputs net journal)
    → xs ≡ heard net monitor journal
heard_is net monitor hearing journal xs by fits is =
    is
    ∙ heard_same net monitor hearing.events (placed_outputs net journal) by.events
    (placed_numbered net journal fits)

pub settled_fits : (net monitor : Network) (journal : List Entry) (xs : List Emission)
    → IsMonitor net monitor → IsJournal net journal → xs ≡ heard net monitor journal
    → IsTrace monitor (settled xs)
settled_fits net monitor journal xs may fits is =
    subst (λ (l : List Emission). IsTrace monitor (settled l)) (sym is)
    (trace_fits net monitor journal may fits)

pub answer_moved : (net monitor : Network) (journal : List Entry) (xs : List Emission)
    (answer : Watched) → xs ≡ heard net monitor journal
    → IsAnswerTo monitor xs ENTRIES_MAX answer → IsAnswer net monitor journal answer
answer_moved net monitor journal xs answer is says =
    subst (λ (l : List Emission). IsAnswerTo monitor l ENTRIES_MAX answer) is says
