-- What is read of the form that an entry is printed in.
use Rattle.std.proofs.Common.{◌≡◌, ◌<◌, ◌≤◌, ◌+◌, ◌-◌, ℕ, zero, suc, Bool, true, false, not, ◌&&◌, ◌==◌, nat_lt, nat_le, cond, List, [], ◌∷◌, ◌++◌, map, length, take, drop, Option, Some, None, Ok, refl, sym, ◌∙◌, ap, arith, slice_get}
use Rattle.std.specs.Prelude.{codes, option_map, unwrap_or}
use Rattle.std.specs.List.{list_all, list_any}
use Rattle.std.specs.Option.{option_map_or}
use Rattle.std.proofs.lemmas.Bool.{and_parts, ltb-true, lt-ltb, leb-true, not-true, not_from_false, false≢true, eq-eqb, and_from}
use Rattle.std.proofs.lemmas.Option.{slice_get_within}
use Rattle.std.proofs.lemmas.List.{append-nil, take-append-drop}
use Rattle.polis_base.specs.Names.{is_name}
use Rattle.domains.specs.Names.{is_same, are_distinct}
use Rattle.domains.specs.Domains.{WordsDiffer, size_of, word_of}
use Rattle.domains.specs.Tables.{fits}
use Rattle.domains.specs.declared.domain.Domain.{Domain}
use Rattle.transition_table.specs.NetworkFacts.{values_of, event_values, has_vars, has, are_different, has_outputs, lists_once, is_numbered}
use Rattle.transition_table.specs.Transitions.{IsSnapshot, blank, IsOutcome}
use Rattle.transition_table.specs.declared.decl.Party.{Party}
use Rattle.transition_table.specs.declared.decl.Party.TheVariants.{Env, Machine as Sender}
use Rattle.transition_table.specs.declared.decl.EventDecl.{EventDecl}
use Rattle.transition_table.specs.declared.decl.StateDecl.{StateDecl}
use Rattle.transition_table.specs.declared.machine.Machine.{Machine}
use Rattle.transition_table.specs.declared.network.Network.{Network}
use Rattle.transition_table.specs.declared.snapshot.Snapshot.{Snapshot}
use Rattle.transition_table.specs.declared.snapshot.Outcome.{Outcome}
use Rattle.journals.specs.declared.entry.Entry.{Entry}
use Rattle.journals.specs.declared.entry.Entry.TheVariants.{Dep, Rea}
use Rattle.journals.specs.Journals.{FitsNetwork, is_party}
use Rattle.transition_table.specs.NetworkNames.{event_name, joined, machine_name}
use Rattle.journal_text.specs.Texts.{value_part, event_item, event_items, state_item, state_items, set_items, party_name}
use Rattle.journal_text.specs.inner.Texts.{event_size, state_size, set_size}
use Rattle.journal_text.specs.Forms.{Text, FireForm, IdleForm, is_word, is_word_byte}
use Rattle.journal_text.specs.Items.{Named, as_event, as_state, machine_named, event_named, party_named, name_part, some_codes, all_values, snapshot_read, result_read, fired, idled, entry_read}
use Rattle.journal_text.specs.Holding.{machine_holds}
use Rattle.polis_base.proofs.AllPass.{all_pass}
use Rattle.domains.proofs.Names.{texts_differ}
use Rattle.journal_text.proofs.FormWords.{good_lists, good_form, some_same}
use Rattle.journal_text.proofs.FoundByName.{found_by_name}
use Rattle.journal_text.proofs.ItemCodes.{named_size, item_text, named_items, DomainsHold, value_word, item_is, item_has_code, codes_read, values_read, names_lack, names_of, lacks_equals, after_equals, name_of_item}
use Rattle.journal_text.proofs.EntryForms.{Holds, seen_of, given_of, form_of, machine_there}
use Rattle.journal_text.proofs.MachineCodes.{inputs_fit, states_fit, settings_fit, outputs_fit}
use Rattle.journal_text.proofs.IsWord.{name_lacks_equals, item_word, value_bytes}
use Rattle.polis_base.proofs.Bools.{neither_first, neither_second}
use Rattle.polis_base.proofs.ListTests.{all_get}

-- 1. Events and state variables as things that items name.
pub event_item_is : (net : Network) (e v : ℕ)
    → event_item net (e, suc v) ≡ item_text net (as_event net e) v
event_item_is net e v = go (slice_get net.events e)
  where
    less : suc v - 1 ≡ v
    less = omega arith

    go : (o : Option EventDecl)
        → unwrap_or (option_map (λ (event : EventDecl). event.name
        ++ option_map_or (λ d. value_part net d (suc v - 1)) event.domain []) o) []
        ≡ unwrap_or (option_map (λ (event : EventDecl). event.name) o) []
        ++ option_map_or (λ d. value_part net d v)
        (joined (option_map (λ (event : EventDecl). event.domain) o)) []
    go None = refl
    go (Some event) =
        ap (λ n. event.name ++ option_map_or (λ d. value_part net d n) event.domain []) less

pub event_items_are : (net : Network) (events codes : List ℕ)
    → event_items net events codes ≡ named_items net (map (as_event net) events) codes
event_items_are net [] codes = refl
event_items_are net (e ∷ events) [] = refl
event_items_are net (e ∷ events) (zero ∷ codes) = event_items_are net events codes
event_items_are net (e ∷ events) (suc v ∷ codes) =
    ap (λ x. x ∷ event_items net events codes) (event_item_is net e v)
    ∙ ap (λ xs. item_text net (as_event net e) v ∷ xs) (event_items_are net events codes)

pub set_items_are : (net : Network) (variables : List StateDecl) (codes : List ℕ)
    → set_items net variables codes ≡ named_items net (map as_state variables) codes
set_items_are net [] codes = refl
set_items_are net (variable ∷ variables) [] = refl
set_items_are net (variable ∷ variables) (zero ∷ codes) = set_items_are net variables codes
set_items_are net (variable ∷ variables) (suc v ∷ codes) =
    ap (λ xs. state_item net variable v ∷ xs) (set_items_are net variables codes)

pub state_items_are : (net : Network) (variables : List StateDecl) (values : List ℕ)
    → state_items net variables values ≡ named_items net (map as_state variables) (map suc values)
state_items_are net [] values = refl
state_items_are net (variable ∷ variables) [] = refl
state_items_are net (variable ∷ variables) (v ∷ values) =
    ap (λ xs. state_item net variable v ∷ xs) (state_items_are net variables values)

-- the events are of the network
abbrev pub are_events : Network → List ℕ → Bool
are_events net events = list_all (λ e. nat_lt e (length net.events)) events

event_there : (net : Network) (e : ℕ) → nat_lt e (length net.events) ≡ true
    → (event : EventDecl) × (slice_get net.events e ≡ Some event)
event_there net e h = there net.events e (ltb-true _ _ h)
  where
    there : (events : List EventDecl) (e : ℕ) → e < length events
        → (event : EventDecl) × (slice_get events e ≡ Some event)
    there [] e below = absurd (omega arith)
    there (event ∷ events) zero below = (event, refl)
    there (event ∷ events) (suc e) below = there events e (omega arith)

pub event_sized : (net : Network) (e : ℕ) → nat_lt e (length net.events) ≡ true
    → named_size net (as_event net e) ≡ event_size net e
event_sized net e h =
    let t = event_there net e h in
    rw t.1 refl

pub event_sizes : (net : Network) (events : List ℕ) → are_events net events ≡ true
    → map (named_size net) (map (as_event net) events) ≡ map (event_size net) events
event_sizes net [] h = refl
event_sizes net (e ∷ events) h =
    let parts = and_parts (nat_lt e (length net.events)) _ h in
    rw (event_sized net e parts.0, event_sizes net events parts.1) refl

pub set_sizes : (net : Network) (variables : List StateDecl)
    → map (named_size net) (map as_state variables) ≡ map (set_size net) variables
set_sizes net [] = refl
set_sizes net (variable ∷ variables) =
    ap (λ xs. set_size net variable ∷ xs) (set_sizes net variables)

pub state_sizes : (net : Network) (variables : List StateDecl)
    → map (λ (named : Named). values_of net.domains named.1) (map as_state variables)
    ≡ map (state_size net) variables
state_sizes net [] = refl
state_sizes net (variable ∷ variables) =
    ap (λ xs. state_size net variable ∷ xs) (state_sizes net variables)

-- 2. Their names.
abbrev pub are_named : List Named → Bool
are_named things = list_all (λ (named : Named). is_name named.0) things

pub named_lack : (things : List Named) → are_named things ≡ true → names_lack things ≡ true
named_lack things h =
    all_pass (λ (named : Named). is_name named.0) (λ (named : Named). lacks_equals named.0)
    (λ named is. name_lacks_equals named.0 is) things h

pub events_named : (net : Network) (events : List ℕ) → Holds net → are_events net events ≡ true
    → are_named (map (as_event net) events) ≡ true
events_named net [] hold h = refl
events_named net (e ∷ events) hold h =
    let parts = and_parts (nat_lt e (length net.events)) _ h in
    let t = event_there net e parts.0 in
    let name = all_get (λ (event : EventDecl). is_name event.name) net.events e t.0
    hold.events t.1 in
    and_from _ _ (rw t.1 name) (events_named net events hold parts.1)

pub states_named : (variables : List StateDecl)
    → list_all (λ (variable : StateDecl). is_name variable.name) variables ≡ true
    → are_named (map as_state variables) ≡ true
states_named [] h = refl
states_named (variable ∷ variables) h =
    let parts = and_parts (is_name variable.name) _ h in
    and_from _ _ parts.0 (states_named variables parts.1)

-- two events differ in their names
events_differ : (net : Network) (j k : ℕ) → nat_lt j (length net.events) ≡ true
    → nat_lt k (length net.events) ≡ true → (k == j) ≡ false
    → is_same (event_name net j) (event_name net k) ≡ false
events_differ net j k p q differ = texts_differ (event_name net j) (event_name net k) (λ same.
    let a = found_by_name (λ (event : EventDecl). event.name) net.events j net.event_names
    (ltb-true _ _ p) in
    let b = found_by_name (λ (event : EventDecl). event.name) net.events k net.event_names
    (ltb-true _ _ q) in
    let one : Some j ≡ Some k = sym a ∙ ap (event_named net) same ∙ b in
    let is : k ≡ j = sym (some_same one) in
    false≢true (sym differ ∙ eq-eqb k j is))

pub events_distinct : (net : Network) (events : List ℕ) → are_different events ≡ true
    → are_events net events ≡ true → are_distinct (names_of (map (as_event net) events)) ≡ true
events_distinct net [] differ all = refl
events_distinct net (e ∷ events) differ all =
    let d = and_parts (not (has events e)) _ differ in
    let a = and_parts (nat_lt e (length net.events)) _ all in
    and_from _ _ (not_from_false _ (apart e events (not-true _ d.0) a.0 a.1))
    (events_distinct net events d.1 a.1)
  where
    apart : (e : ℕ) (events : List ℕ) → has events e ≡ false → nat_lt e (length net.events) ≡ true
        → are_events net events ≡ true
        → list_any (is_same (event_name net e)) (names_of (map (as_event net) events)) ≡ false
    apart e [] other p q = refl
    apart e (k ∷ events) other p q =
        let parts = and_parts (nat_lt k (length net.events)) _ q in
        rw (events_differ net e k p parts.0 (neither_first (k == e) _ other))
        (apart e events (neither_second (k == e) _ other) p parts.1)

pub states_distinct : (variables : List StateDecl)
    → names_of (map as_state variables) ≡ map (λ (variable : StateDecl). variable.name) variables
states_distinct [] = refl
states_distinct (variable ∷ variables) = ap (λ xs. variable.name ∷ xs) (states_distinct variables)

-- 3. A machine of the network.
pub record MachineHolds (net : Network) (machine : Machine) : Type 0 where
  pub name : is_name machine.name ≡ true
  pub inputs : are_events net machine.inputs ≡ true
  pub outputs : are_events net machine.outputs ≡ true
  pub inputs_once : are_different machine.inputs ≡ true
  pub outputs_once : are_different machine.outputs ≡ true
  pub states : list_all (λ (variable : StateDecl). is_name variable.name) machine.states ≡ true
  pub states_once :
      are_distinct (map (λ (variable : StateDecl). variable.name) machine.states) ≡ true
  pub vars : has_vars net.domains net.events machine ≡ true
  pub outs : has_outputs net.domains net.events machine ≡ true

pub machine_facts : (net : Network) (m : ℕ) (machine : Machine) → Holds net
    → slice_get net.machines m ≡ Some machine → MachineHolds net machine
machine_facts net m machine hold at =
    let names = and_parts (is_name machine.name) _
    (all_get machine_holds net.machines m machine hold.machines at) in
    let numbered = all_get (is_numbered net.domains net.events) net.machines m machine
    net.numbered at in
    let n = and_parts (list_all (λ e. nat_lt e (length net.events)) machine.inputs
    && list_all (λ e. nat_lt e (length net.events)) machine.outputs) _ numbered in
    let n2 = and_parts (list_all (λ e. nat_lt e (length net.events)) machine.inputs) _ n.0 in
    let once = all_get lists_once net.machines m machine net.once at in
    let o = and_parts (are_different machine.inputs && are_different machine.outputs) _ once in
    let o2 = and_parts (are_different machine.inputs) _ o.0 in
    record {
      name = names.0;
      inputs = n2.0;
      outputs = n2.1;
      inputs_once = o2.0;
      outputs_once = o2.1;
      states = names.1;
      states_once = o.1;
      vars = all_get (has_vars net.domains net.events) net.machines m machine net.sized_vars at;
      outs = all_get (has_outputs net.domains net.events) net.machines m machine
          net.sized_outputs at;
    }

-- 4. Lists of items are read.
pub events_read : WordsDiffer → (net : Network) (events codes : List ℕ) → Holds net
    → are_events net events ≡ true → are_different events ≡ true
    → fits (map (event_size net) events) codes ≡ true
    → some_codes net (map (as_event net) events) (event_items net events codes) ≡ Ok codes
events_read differ net events codes hold all once fit =
    rw (event_items_are net events codes)
    (codes_read differ net (map (as_event net) events) codes hold.domains
    (named_lack (map (as_event net) events) (events_named net events hold all))
    (events_distinct net events once all) (rw (event_sizes net events all) fit))

pub sets_read : WordsDiffer → (net : Network) (variables : List StateDecl) (codes : List ℕ)
    → Holds net → list_all (λ (variable : StateDecl). is_name variable.name) variables ≡ true
    → are_distinct (map (λ (variable : StateDecl). variable.name) variables) ≡ true
    → fits (map (set_size net) variables) codes ≡ true
    → some_codes net (map as_state variables) (set_items net variables codes) ≡ Ok codes
sets_read differ net variables codes hold names once fit =
    rw (set_items_are net variables codes)
    (codes_read differ net (map as_state variables) codes hold.domains
    (named_lack (map as_state variables) (states_named variables names))
    (rw (states_distinct variables) once) (rw (set_sizes net variables) fit))

pub states_read : WordsDiffer → (net : Network) (variables : List StateDecl) (values : List ℕ)
    → Holds net → list_all (λ (variable : StateDecl). is_name variable.name) variables ≡ true
    → fits (map (state_size net) variables) values ≡ true
    → all_values net (map as_state variables) (state_items net variables values) ≡ Ok values
states_read differ net variables values hold names fit =
    rw (state_items_are net variables values)
    (values_read differ net (map as_state variables) values hold.domains
    (named_lack (map as_state variables) (states_named variables names))
    (rw (state_sizes net variables) fit))

snapshot_of : WordsDiffer → (net : Network) (m : ℕ) (machine : Machine) (s : Snapshot) → Holds net
    → MachineHolds net machine → slice_get net.machines m ≡ Some machine → IsSnapshot machine s
    → snapshot_read net m (seen_of net m s.codes)
    ≡ Ok (take (length machine.inputs) s.codes, drop (length machine.inputs) s.codes)
snapshot_of differ net m machine s hold facts at is =
    rw at (rw (
      events_read differ net machine.inputs (take (length machine.inputs) s.codes) hold facts.inputs
          facts.inputs_once (inputs_fit net machine s facts.vars is),
      states_read differ net machine.states (drop (length machine.inputs) s.codes) hold facts.states
          (states_fit net machine s facts.vars is),
    ) refl)

result_of : WordsDiffer → (net : Network) (m : ℕ) (machine : Machine) (o : Outcome) → Holds net
    → MachineHolds net machine → slice_get net.machines m ≡ Some machine → IsOutcome machine o
    → result_read net m (given_of net m o) ≡ Ok (o.next, o.outs)
result_of differ net m machine o hold facts at is =
    rw at (rw (
      sets_read differ net machine.states o.next hold facts.states facts.states_once
          (settings_fit net machine o facts.vars facts.outs is),
      events_read differ net machine.outputs o.outs hold facts.outputs facts.outputs_once
          (outputs_fit net machine o facts.vars facts.outs is),
    ) refl)

pub machine_found : (net : Network) (m : ℕ) → m < length net.machines
    → machine_named net (machine_name net m) ≡ Some m
machine_found net m below =
    found_by_name (λ (machine : Machine). machine.name) net.machines m net.machine_names below

pub event_found : (net : Network) (e : ℕ) → e < length net.events
    → event_named net (event_name net e) ≡ Some e
event_found net e below =
    found_by_name (λ (event : EventDecl). event.name) net.events e net.event_names below

machine_is_named : (net : Network) (m : ℕ) → Holds net → m < length net.machines
    → is_name (machine_name net m) ≡ true
machine_is_named net m hold below = there net.machines m hold.machines below
  where
    there : (machines : List Machine) (m : ℕ) → list_all machine_holds machines ≡ true
        → m < length machines
        → is_name (unwrap_or
        (option_map (λ (machine : Machine). machine.name) (slice_get machines m)) []) ≡ true
    there [] m all below = absurd (omega arith)
    there (machine ∷ machines) zero all below =
        (and_parts (is_name machine.name) _ (and_parts (machine_holds machine) _ all).0).0
    there (machine ∷ machines) (suc m) all below =
        there machines m (and_parts (machine_holds machine) _ all).1 (omega arith)

pub party_found : (net : Network) (from : Party) → Holds net → is_party net from ≡ true
    → party_named net (party_name net from) ≡ Some from
party_found net Env hold h = refl
party_found net (Sender m) hold h =
    let below = ltb-true _ _ h in
    let name = machine_is_named net m hold below in
    let other = texts_differ (machine_name net m) (codes "env")
    (λ e. let no_name : is_name (codes "env") ≡ false = refl in
    false≢true (sym no_name ∙ ap is_name (sym e) ∙ name)) in
    rw (other, machine_found net m below) refl

-- 5. The words of the form are words.
value_word_bytes : (net : Network) (thing : Named) (v : ℕ) → DomainsHold net
    → suc v < named_size net thing
    → list_all is_word_byte (after_equals (value_word net thing v)) ≡ true
value_word_bytes net (name, None) v hold below = refl
value_word_bytes net (name, Some d) v hold below = at (slice_get net.domains d) refl below
  where
    at : (o : Option Domain) → slice_get net.domains d ≡ o
        → suc v < 1 + unwrap_or (option_map size_of o) 0
        → list_all is_word_byte
        (61 ∷ unwrap_or (option_map (λ domain. word_of domain v) o) []) ≡ true
    at None p below = absurd (omega arith)
    at (Some domain) p below = value_bytes domain v (hold d domain p) (omega arith)

item_good : (net : Network) (thing : Named) (v : ℕ) → DomainsHold net → is_name thing.0 ≡ true
    → suc v < named_size net thing → is_word (item_text net thing v) ≡ true
item_good net thing v hold name below =
    rw (item_is net thing v)
    (item_word thing.0 (value_word net thing v) name (value_word_bytes net thing v hold below))

pub items_good : (net : Network) (things : List Named) (codes : List ℕ) → DomainsHold net
    → are_named things ≡ true → fits (map (named_size net) things) codes ≡ true
    → list_all is_word (named_items net things codes) ≡ true
items_good net [] codes hold names fit = refl
items_good net (thing ∷ things) [] hold names fit = refl
items_good net (thing ∷ things) (zero ∷ codes) hold names fit =
    items_good net things codes hold (and_parts (is_name thing.0) _ names).1
    (and_parts (nat_lt 0 (named_size net thing)) _ fit).1
items_good net (thing ∷ things) (suc v ∷ codes) hold names fit =
    let n = and_parts (is_name thing.0) _ names in
    let f = and_parts (nat_lt (suc v) (named_size net thing)) _ fit in
    and_from _ _ (item_good net thing v hold n.0 (ltb-true _ _ f.0))
    (items_good net things codes hold n.1 f.1)

fits_more : (net : Network) (things : List Named) (values : List ℕ)
    → fits (map (λ (named : Named). values_of net.domains named.1) things) values ≡ true
    → fits (map (named_size net) things) (map suc values) ≡ true
fits_more net [] [] h = refl
fits_more net [] (v ∷ values) h = cc
fits_more net (thing ∷ things) [] h = cc
fits_more net (thing ∷ things) (v ∷ values) h =
    let f = and_parts (nat_lt v (values_of net.domains thing.1)) _ h in
    let below = ltb-true _ _ f.0 in
    and_from _ _ (lt-ltb _ _ (omega arith)) (fits_more net things values f.1)

name_word : (name : Text) → is_name name ≡ true → is_word name ≡ true
name_word name h = rw (sym (append-nil name)) (item_word name None h refl)

events_good : (net : Network) (events codes : List ℕ) → Holds net → are_events net events ≡ true
    → fits (map (event_size net) events) codes ≡ true
    → list_all is_word (event_items net events codes) ≡ true
events_good net events codes hold all fit =
    rw (event_items_are net events codes)
    (items_good net (map (as_event net) events) codes hold.domains
    (events_named net events hold all) (rw (event_sizes net events all) fit))

sets_good : (net : Network) (variables : List StateDecl) (codes : List ℕ) → Holds net
    → list_all (λ (variable : StateDecl). is_name variable.name) variables ≡ true
    → fits (map (set_size net) variables) codes ≡ true
    → list_all is_word (set_items net variables codes) ≡ true
sets_good net variables codes hold names fit =
    rw (set_items_are net variables codes)
    (items_good net (map as_state variables) codes hold.domains (states_named variables names)
    (rw (set_sizes net variables) fit))

states_good : (net : Network) (variables : List StateDecl) (values : List ℕ) → Holds net
    → list_all (λ (variable : StateDecl). is_name variable.name) variables ≡ true
    → fits (map (state_size net) variables) values ≡ true
    → list_all is_word (state_items net variables values) ≡ true
states_good net variables values hold names fit =
    rw (state_items_are net variables values)
    (items_good net (map as_state variables) (map suc values) hold.domains
    (states_named variables names)
    (fits_more net (map as_state variables) values (rw (state_sizes net variables) fit)))

seen_good : (net : Network) (m : ℕ) (machine : Machine) (s : Snapshot) → Holds net
    → MachineHolds net machine → slice_get net.machines m ≡ Some machine → IsSnapshot machine s
    → good_lists (seen_of net m s.codes) ≡ true
seen_good net m machine s hold facts at is =
    let events = events_good net machine.inputs (take (length machine.inputs) s.codes) hold
    facts.inputs (inputs_fit net machine s facts.vars is) in
    let states = states_good net machine.states (drop (length machine.inputs) s.codes) hold
    facts.states (states_fit net machine s facts.vars is) in
    rw at (and_from _ _ events states)

given_good : (net : Network) (m : ℕ) (machine : Machine) (o : Outcome) → Holds net
    → MachineHolds net machine → slice_get net.machines m ≡ Some machine → IsOutcome machine o
    → good_lists (given_of net m o) ≡ true
given_good net m machine o hold facts at is =
    let sets = sets_good net machine.states o.next hold facts.states
    (settings_fit net machine o facts.vars facts.outs is) in
    let events = events_good net machine.outputs o.outs hold facts.outputs
    (outputs_fit net machine o facts.vars facts.outs is) in
    rw at (and_from _ _ sets events)

-- the parts of a delivery that fits
pub record DepFits (net : Network) (from : Party) (to event code : ℕ) : Type 0 where
  pub sender : is_party net from ≡ true
  pub receiver : to < length net.machines
  pub declared : event < length net.events
  pub some : 1 ≤ code
  pub few : code ≤ event_values net.domains net.events event

pub dep_fits : (net : Network) (from : Party) (to event code : ℕ)
    → FitsNetwork net (Dep from to event code) → DepFits net from to event code
dep_fits net from to event code fit =
    let a = and_parts (is_party net from && nat_lt to (length net.machines)) _ fit in
    let b = and_parts (is_party net from) _ a.0 in
    let d = and_parts (nat_lt event (length net.events) && nat_le 1 code) _ a.1 in
    let e = and_parts (nat_lt event (length net.events)) _ d.0 in
    record {
      sender = b.0;
      receiver = ltb-true _ _ b.1;
      declared = ltb-true _ _ e.0;
      some = leb-true _ _ e.1;
      few = leb-true _ _ d.1;
    }

dep_below : (net : Network) (from : Party) (to event v : ℕ) → DepFits net from to event (suc v)
    → suc v < named_size net (as_event net event)
dep_below net from to event v fit =
    let size = event_sized net event (lt-ltb _ _ fit.declared) in
    let few = fit.few in
    rw size (omega arith)

event_is_named : (net : Network) (e : ℕ) → Holds net → e < length net.events
    → is_name (event_name net e) ≡ true
event_is_named net e hold below =
    let t = event_there net e (lt-ltb _ _ below) in
    rw t.1 (all_get (λ (event : EventDecl). is_name event.name) net.events e t.0 hold.events t.1)

party_good : (net : Network) (from : Party) → Holds net → is_party net from ≡ true
    → is_word (party_name net from) ≡ true
party_good net Env hold h = refl
party_good net (Sender m) hold h =
    name_word (machine_name net m) (machine_is_named net m hold (ltb-true _ _ h))

pub form_good : (net : Network) (entry : Entry) → Holds net → FitsNetwork net entry
    → good_form (form_of net entry) ≡ true
form_good net (Dep from to event zero) hold fit = let f = dep_fits net from to event zero fit in
    absurd (omega (arith, f.some))
form_good net (Dep from to event (suc v)) hold fit =
    let f = dep_fits net from to event (suc v) fit in
    and_from _ _ (and_from _ _ (party_good net from hold f.sender)
    (name_word (machine_name net to) (machine_is_named net to hold f.receiver)))
    (rw (event_item_is net event v)
    (item_good net (as_event net event) v hold.domains
    (event_is_named net event hold f.declared) (dep_below net from to event v f)))
form_good net (Rea m s o) hold fit =
    let there = machine_there net m s o fit in
    let facts = machine_facts net m there.0 hold there.1 in
    let name = name_word (machine_name net m) (rw there.1 facts.name) in
    let seen = seen_good net m there.0 s hold facts there.1 there.2 in
    let given = given_good net m there.0 o hold facts there.1 there.3 in
    go o.fires name seen given
  where
    go : (b : Bool) → is_word (machine_name net m) ≡ true
        → good_lists (seen_of net m s.codes) ≡ true → good_lists (given_of net m o) ≡ true
        → good_form (cond b
        (FireForm (machine_name net m) (seen_of net m s.codes) (given_of net m o))
        (IdleForm (machine_name net m) (seen_of net m s.codes))) ≡ true
    go true name seen given = and_from _ _ name (and_from _ _ seen given)
    go false name seen given = and_from _ _ name seen

-- 6. What is read of an entry's form is the entry.
pub entry_back : WordsDiffer → (net : Network) (entry : Entry) → Holds net → FitsNetwork net entry
    → entry_read net (form_of net entry) ≡ Ok entry
entry_back differ net (Dep from to event zero) hold fit = let f =
    dep_fits net from to event zero fit in absurd (omega (arith, f.some))
entry_back differ net (Dep from to event (suc v)) hold fit =
    let f = dep_fits net from to event (suc v) fit in
    let lack = name_lacks_equals (event_name net event)
    (event_is_named net event hold f.declared) in
    let is = event_item_is net event v in
    let part : name_part (item_text net (as_event net event) v) ≡ event_name net event =
    rw (item_is net (as_event net event) v)
    (name_of_item (event_name net event) (value_word net (as_event net event) v) lack) in
    let code = item_has_code differ net (as_event net event) v hold.domains lack
    (dep_below net from to event v f) in
    rw is (rw (
      part,
      party_found net from hold f.sender,
      machine_found net to f.receiver,
      event_found net event f.declared,
    ) (rw code refl))
entry_back differ net (Rea m s o) hold fit =
    let there = machine_there net m s o fit in
    let facts = machine_facts net m there.0 hold there.1 in
    let found = machine_found net m (slice_get_within net.machines m there.0 there.1) in
    let seen = snapshot_of differ net m there.0 s hold facts there.1 there.2 in
    let given = result_of differ net m there.0 o hold facts there.1 there.3 in
    let whole = take-append-drop (length there.0.inputs) s.codes in
    elim o.fires as (λ b. o.fires ≡ b
    → entry_read net
    (cond b (FireForm (machine_name net m) (seen_of net m s.codes) (given_of net m o))
    (IdleForm (machine_name net m) (seen_of net m s.codes))) ≡ Ok (Rea m s o)) [
      | true ↦ λ p. rw (found, seen, given) (ap Ok (fired_is there.0 p whole))
      | false ↦ λ p. rw (found, seen) (ap Ok (idled_is there.0 p whole there.1 (there.3.idle p)))
    ] refl
  where
    fired_is : (machine : Machine) → o.fires ≡ true
        → take (length machine.inputs) s.codes ++ drop (length machine.inputs) s.codes ≡ s.codes
        → fired m (
          (take (length machine.inputs) s.codes, drop (length machine.inputs) s.codes),
          (o.next, o.outs),
        ) ≡ Rea m s o
    fired_is machine p whole =
        ap (λ codes. Rea m (record { codes = codes })
        (record { fires = true; next = o.next; outs = o.outs })) whole
        ∙ ap (λ b. Rea m s (record { fires = b; next = o.next; outs = o.outs })) (sym p)

    idled_is : (machine : Machine) → o.fires ≡ false
        → take (length machine.inputs) s.codes ++ drop (length machine.inputs) s.codes ≡ s.codes
        → slice_get net.machines m ≡ Some machine → o ≡ blank machine
        → idled net m (take (length machine.inputs) s.codes, drop (length machine.inputs) s.codes)
        ≡ Rea m s o
    idled_is machine p whole at is =
        rw at (ap (λ codes. Rea m (record { codes = codes }) (blank machine)) whole
        ∙ ap (λ out. Rea m s out) (sym is))
