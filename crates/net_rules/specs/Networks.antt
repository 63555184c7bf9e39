-- The network that declarations give where no rule is broken.
use Rattle.std.specs.Prelude.{◌≡◌, ℕ, zero, suc, ◌+◌, ◌^◌, Bool, not, ◌==◌, List, [], ◌∷◌, ◌++◌, map, length, Option, Some, None, option_map, option_and_then, unwrap_or, slice_index, bit_or, if◌then◌else◌}
use Rattle.std.specs.List.{list_any, AllZip}
use Rattle.polis_base.specs.Lists.{places_where}
use Rattle.domains.specs.declared.domain.Span.{Span}
use Rattle.domains.specs.declared.domain.Domain.{Domain}
use Rattle.domains.specs.declared.domain.Domain.TheVariants as domains
use Rattle.transition_table.specs.declared.decl.Party.{Party}
use Rattle.transition_table.specs.declared.decl.Party.TheVariants.{Env, Machine as Sender}
use Rattle.transition_table.specs.declared.decl.EventDecl.{EventDecl}
use Rattle.transition_table.specs.declared.decl.StateDecl.{StateDecl}
use Rattle.transition_table.specs.declared.row.Cond.{Cond}
use Rattle.transition_table.specs.declared.row.Source.{Source}
use Rattle.transition_table.specs.declared.row.Source.TheVariants.{Code, Input, Add}
use Rattle.transition_table.specs.declared.row.Act.{Act}
use Rattle.transition_table.specs.declared.row.Row.{Row}
use Rattle.transition_table.specs.declared.machine.Machine.{Machine}
use Rattle.transition_table.specs.declared.network.Network.{Network}
use Rattle.net_reader.specs.declared.raw.Word.{Word}
use Rattle.net_reader.specs.declared.raw.RawValue.{RawValue}
use Rattle.net_reader.specs.declared.raw.RawShape.{RawShape}
use Rattle.net_reader.specs.declared.raw.RawShape.TheVariants as shapes
use Rattle.net_reader.specs.declared.raw.RawDomain.{RawDomain}
use Rattle.net_reader.specs.declared.raw.RawEvent.{RawEvent}
use Rattle.net_reader.specs.declared.raw.RawState.{RawState}
use Rattle.net_reader.specs.declared.raw.RawCond.{RawCond}
use Rattle.net_reader.specs.declared.raw.RawCond.TheVariants as conds
use Rattle.net_reader.specs.declared.raw.RawSource.{RawSource}
use Rattle.net_reader.specs.declared.raw.RawSource.TheVariants as sources
use Rattle.net_reader.specs.declared.raw.RawAct.{RawAct}
use Rattle.net_reader.specs.declared.raw.RawAct.TheVariants as acts
use Rattle.net_reader.specs.declared.raw.RawRow.{RawRow}
use Rattle.net_reader.specs.declared.raw.RawMachine.{RawMachine}
use Rattle.net_reader.specs.declared.raw.RawNet.{RawNet}
use Rattle.net_names.specs.Numbers.{names_of, is_among, number}
use Rattle.net_names.specs.Values.{value_in}
use Rattle.net_names.specs.Scopes.{domain_words, event_words, state_words, is_to_env, shape_at, event_domain, state_domain, var_domain, event_codes, state_codes, cond_word, var_sizes, var_words}

-- the number of a value of the domain of this name
abbrev pub value_number : RawNet → Option Word → RawValue → ℕ
value_number net domain value =
    unwrap_or (option_and_then (λ shape. value_in shape value) (shape_at net domain)) 0

-- the domain has these names, or these numbers
abbrev pub IsDomainOf : RawShape → Domain → Type 0
IsDomainOf (shapes.Names words) domain = domain ≡ domains.Names (names_of words)
IsDomainOf (shapes.Range first last) domain =
    (span : Span) × (domain ≡ domains.Range span) × (span.first ≡ first.number)
    × (span.last ≡ last.number)

-- the machines that have a name in a list
abbrev pub machines_with : (RawMachine → List Word) → RawNet → List ℕ → List ℕ
machines_with list net name = places_where (λ m. is_among (names_of (list m)) name) net.machines

-- the first of these machines, or the environment
abbrev pub party_of : List ℕ → Party
party_of [] = Env
party_of (m ∷ rest) = Sender m

-- the machine that emits it sends it, or else the environment, and the machines that read it
-- receive it
abbrev pub event_of : RawNet → RawEvent → EventDecl
event_of net e = record {
  name = e.name.name;
  domain = option_map (λ (w : Word). number (domain_words net) w.name) e.domain;
  sender = party_of (machines_with (λ (m : RawMachine). m.outputs) net e.name.name);
  to_env = is_to_env e.env;
  receivers = machines_with (λ (m : RawMachine). m.inputs) net e.name.name;
}

abbrev pub state_of : RawNet → RawState → StateDecl
state_of net s =
    record {
      name = s.name.name;
      domain = number (domain_words net) s.domain.name;
      init = value_number net (Some s.domain) s.init;
    }

-- how many codes of a variable stand before that of its first value: one for an event, none for a
-- state variable
abbrev pub first_code : RawMachine → List ℕ → ℕ
first_code m name = if is_among (names_of (state_words m)) name then 0 else 1

-- the code of a value of a variable
abbrev pub value_code : RawNet → RawMachine → List ℕ → RawValue → ℕ
value_code net m name value = first_code m name + value_number net (var_domain net m name) value

-- the codes that a condition allows
abbrev pub allows : RawNet → RawMachine → RawCond → ℕ → Bool
allows net m (conds.Present w) code = not (code == 0)
allows net m (conds.Absent w) code = code == 0
allows net m (conds.Is w value) code = code == value_code net m w.name value
allows net m (conds.OneOf w values) code =
    list_any (λ value. code == value_code net m w.name value) values

-- the numbers below n that pass, one bit each
abbrev pub bits_where : (ℕ → Bool) → ℕ → ℕ
bits_where test zero = 0
bits_where test (suc n) = if test n then bit_or (bits_where test n) (2 ^ n) else bits_where test n

abbrev pub cond_of : RawNet → RawMachine → RawCond → Cond
cond_of net m c = let var = number (var_words m) (cond_word c).name in
    record { var = var; codes = bits_where (allows net m c) (slice_index (var_sizes net m) var) }

-- where an action takes the code of its result from, over the domain of what it gives a value
abbrev pub source_in : RawNet → RawMachine → Option Word → RawSource → Source
source_in net m domain (sources.Value value) = Code (1 + value_number net domain value)
source_in net m domain (sources.Input w) = Input (number (var_words m) w.name)
source_in net m domain (sources.Add w n) = Add n.number

-- an emission of a pure event has the code 1
abbrev pub emission_source : RawNet → RawMachine → Option Word → Option RawSource → Source
emission_source net m domain None = Code 1
emission_source net m domain (Some source) = source_in net m domain source

-- the results are `go`, then the state variables, then the outputs
abbrev pub act_of : RawNet → RawMachine → RawAct → Act
act_of net m (acts.Emit w source) =
    record {
      result = 1 + length m.states + number m.outputs w.name;
      source = emission_source net m (event_domain net w.name) source;
    }
act_of net m (acts.Set w source) =
    record {
      result = 1 + number (state_words m) w.name;
      source = source_in net m (state_domain m w.name) source;
    }

pub record IsRowOf (net : RawNet) (m : RawMachine) (raw : RawRow) (row : Row) : Type 0 where
  pub conds : row.conds ≡ map (cond_of net m) raw.conds
  pub acts : row.acts ≡ map (act_of net m) raw.acts

pub record IsMachineOf (net : RawNet) (raw : RawMachine) (machine : Machine) : Type 0 where
  pub name : machine.name ≡ raw.name.name
  pub priority : machine.priority ≡ raw.priority.number
  pub inputs : machine.inputs ≡ map (λ (w : Word). number (event_words net) w.name) raw.inputs
  pub outputs : machine.outputs ≡ map (λ (w : Word). number (event_words net) w.name) raw.outputs
  pub states : machine.states ≡ map (state_of net) raw.states
  pub vars : machine.vars ≡ var_sizes net raw
  pub results : machine.results ≡ 2 ∷ map (λ s. 1 + state_codes net s) raw.states
      ++ map (event_codes net) raw.outputs
  pub rows : AllZip (IsRowOf net raw) raw.rows machine.rows

-- the network of these declarations, where no rule is broken
pub record IsNetworkOf (raw : RawNet) (net : Network) : Type 0 where
  pub name : net.name ≡ raw.name.name
  pub domains : AllZip (λ (d : RawDomain). IsDomainOf d.shape) raw.domains net.domains
  pub events : net.events ≡ map (event_of raw) raw.events
  pub machines : AllZip (IsMachineOf raw) raw.machines net.machines
