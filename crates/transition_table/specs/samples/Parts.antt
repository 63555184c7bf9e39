-- Parts of small networks. Each network that tests and worked rows speak of has a file of its own
-- beside this one.
use Rattle.std.specs.Prelude.{◌≡◌, ℕ, zero, suc, Bool, true, false, nat_le, List, [], ◌∷◌, map, length, get_or, None, Some, refl}
use Rattle.std.specs.List.{list_all, enumerate_from}
use Rattle.std.proofs.Common.{leb-true}
use Rattle.std.proofs.lemmas.Bool.{false≢true}
use Rattle.polis_base.specs.declared.limits.TheConstants.{DOMAINS_MAX, EVENTS_MAX, MACHINES_MAX}
use Rattle.domains.specs.Names.{are_distinct}
use Rattle.domains.specs.declared.domain.Domain.{Domain}
use Rattle.transition_table.specs.MachineFacts.{are_vars, are_results, is_row, is_small}
use Rattle.transition_table.specs.NetworkFacts.{has_vars, has_receivers, has_sender, lists_once, has_outputs, is_numbered, has_domain}
use Rattle.transition_table.specs.declared.decl.EventDecl.{EventDecl}
use Rattle.transition_table.specs.declared.decl.Party.{Party}
use Rattle.transition_table.specs.declared.decl.StateDecl.{StateDecl}
use Rattle.transition_table.specs.declared.machine.Machine.{Machine}
use Rattle.transition_table.specs.declared.network.Network.{Network}
use Rattle.transition_table.specs.declared.row.Act.{Act}
use Rattle.transition_table.specs.declared.row.Cond.{Cond}
use Rattle.transition_table.specs.declared.row.Row.{Row}
use Rattle.transition_table.specs.declared.row.Source.TheVariants.{Code, Input, Add}

-- a condition: the variable has one of these codes, by bits
abbrev pub has_codes : ℕ → ℕ → Cond
has_codes var codes = record { var = var; codes = codes }

-- an action: the result gets this code
abbrev pub gives : ℕ → ℕ → Act
gives result code = record { result = result; source = Code code }

-- an action: the result gets the code of this input
abbrev pub copies : ℕ → ℕ → Act
copies result var = record { result = result; source = Input var }

-- an action: the result's state variable goes so much further
abbrev pub adds : ℕ → ℕ → Act
adds result step = record { result = result; source = Add step }

-- a state variable of this domain, with its first value
abbrev pub state_of : List ℕ → ℕ → ℕ → StateDecl
state_of name domain init = record { name = name; domain = domain; init = init }

-- an event without a value, one with a value of this domain: its sender, whether the environment
-- reads it, and the machines that do
abbrev pub pure_event : List ℕ → Party → Bool → List ℕ → EventDecl
pure_event name sender out receivers =
    record { name = name; domain = None; sender = sender; to_env = out; receivers = receivers }

abbrev pub valued_event : List ℕ → ℕ → Party → Bool → List ℕ → EventDecl
valued_event name domain sender out receivers =
    record {
      name = name;
      domain = Some domain;
      sender = sender;
      to_env = out;
      receivers = receivers;
    }

-- where all tests hold, the one of this number does
pub nth : (k : ℕ) (tests : List Bool) → list_all (λ test. test) tests ≡ true
    → get_or tests k true ≡ true
nth k [] all = refl
nth k (false ∷ tests) all = absurd (false≢true all)
nth zero (true ∷ tests) all = refl
nth (suc k) (true ∷ tests) all = nth k tests all

-- what a machine has beside its facts
pub record Table : Type 0 where
  pub name : List ℕ
  pub priority : ℕ
  pub inputs : List ℕ
  pub outputs : List ℕ
  pub states : List StateDecl
  pub vars : List ℕ
  pub results : List ℕ
  pub rows : List Row

abbrev pub machine_tests : Table → List Bool
machine_tests t =
    are_vars t.inputs t.states t.vars
    ∷ are_results t.inputs t.outputs t.states t.vars t.results
    ∷ list_all (is_row t.inputs t.vars t.results) t.rows
    ∷ is_small t.inputs t.outputs t.states t.vars t.rows ∷ []

-- the machine of a table that passes all tests
abbrev pub machine_of : (t : Table) → list_all (λ test. test) (machine_tests t) ≡ true → Machine
machine_of t all = record {
  name = t.name;
  priority = t.priority;
  inputs = t.inputs;
  outputs = t.outputs;
  states = t.states;
  vars = t.vars;
  results = t.results;
  rows = t.rows;
  sized_vars = nth 0 (machine_tests t) all;
  sized_results = nth 1 (machine_tests t) all;
  fitting_rows = nth 2 (machine_tests t) all;
  small = nth 3 (machine_tests t) all;
}

-- what a network has beside its facts
pub record Declared : Type 0 where
  pub name : List ℕ
  pub domains : List Domain
  pub events : List EventDecl
  pub machines : List Machine

abbrev pub network_tests : Declared → List Bool
network_tests d =
    nat_le (length d.domains) DOMAINS_MAX
    ∷ nat_le (length d.events) EVENTS_MAX
    ∷ nat_le (length d.machines) MACHINES_MAX
    ∷ are_distinct (map (λ event. event.name) d.events)
    ∷ are_distinct (map (λ machine. machine.name) d.machines)
    ∷ list_all (has_domain d.domains) d.events
    ∷ list_all (has_receivers d.machines) (enumerate_from 0 d.events)
    ∷ list_all (has_sender d.machines) (enumerate_from 0 d.events)
    ∷ list_all (is_numbered d.domains d.events) d.machines
    ∷ list_all lists_once d.machines
    ∷ list_all (has_vars d.domains d.events) d.machines
    ∷ list_all (has_outputs d.domains d.events) d.machines ∷ []

-- the network of declarations that pass all tests
abbrev pub network_of : (d : Declared) → list_all (λ test. test) (network_tests d) ≡ true → Network
network_of d all = record {
  name = d.name;
  domains = d.domains;
  events = d.events;
  machines = d.machines;
  few_domains = leb-true (length d.domains) DOMAINS_MAX (nth 0 (network_tests d) all);
  few_events = leb-true (length d.events) EVENTS_MAX (nth 1 (network_tests d) all);
  few_machines = leb-true (length d.machines) MACHINES_MAX (nth 2 (network_tests d) all);
  event_names = nth 3 (network_tests d) all;
  machine_names = nth 4 (network_tests d) all;
  event_domains = nth 5 (network_tests d) all;
  receivers = nth 6 (network_tests d) all;
  senders = nth 7 (network_tests d) all;
  numbered = nth 8 (network_tests d) all;
  once = nth 9 (network_tests d) all;
  sized_vars = nth 10 (network_tests d) all;
  sized_outputs = nth 11 (network_tests d) all;
}
