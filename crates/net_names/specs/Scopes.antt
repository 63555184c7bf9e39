-- What the names of a network and of its machines stand for.
use Rattle.std.specs.Prelude.{ℕ, ◌+◌, ◌++◌, Bool, true, false, List, map, flat_map, find, Option, Some, None, option_map, option_and_then, unwrap_or, if◌then◌else◌}
use Rattle.domains.specs.Names.{is_same}
use Rattle.net_reader.specs.declared.raw.Word.{Word}
use Rattle.net_reader.specs.declared.raw.RawShape.{RawShape}
use Rattle.net_reader.specs.declared.raw.RawDomain.{RawDomain}
use Rattle.net_reader.specs.declared.raw.RawEnv.{RawEnv}
use Rattle.net_reader.specs.declared.raw.RawEnv.TheVariants.{Between, FromEnv, ToEnv}
use Rattle.net_reader.specs.declared.raw.RawEvent.{RawEvent}
use Rattle.net_reader.specs.declared.raw.RawState.{RawState}
use Rattle.net_reader.specs.declared.raw.RawCond.{RawCond}
use Rattle.net_reader.specs.declared.raw.RawCond.TheVariants as conds
use Rattle.net_reader.specs.declared.raw.RawMachine.{RawMachine}
use Rattle.net_reader.specs.declared.raw.RawNet.{RawNet}
use Rattle.net_names.specs.Numbers.{names_of, is_among}
use Rattle.net_names.specs.Values.{count_of}

abbrev pub domain_words : RawNet → List Word
domain_words net = map (λ (d : RawDomain). d.name) net.domains

abbrev pub event_words : RawNet → List Word
event_words net = map (λ (e : RawEvent). e.name) net.events

abbrev pub machine_words : RawNet → List Word
machine_words net = map (λ (m : RawMachine). m.name) net.machines

abbrev pub state_words : RawMachine → List Word
state_words m = map (λ (s : RawState). s.name) m.states

abbrev pub is_from_env : RawEnv → Bool
is_from_env FromEnv = true
is_from_env Between = false
is_from_env ToEnv = false

abbrev pub is_to_env : RawEnv → Bool
is_to_env ToEnv = true
is_to_env Between = false
is_to_env FromEnv = false

-- the names in the output lists, and in the input lists
abbrev pub all_outputs : RawNet → List Word
all_outputs net = flat_map (λ (m : RawMachine). m.outputs) net.machines

abbrev pub all_inputs : RawNet → List Word
all_inputs net = flat_map (λ (m : RawMachine). m.inputs) net.machines

-- the values of the domain of this name
abbrev pub shape_of : RawNet → List ℕ → Option RawShape
shape_of net name =
    option_map (λ (d : RawDomain). d.shape)
    (find (λ (d : RawDomain). is_same name d.name.name) net.domains)

-- the name of an event's domain, where it has one
abbrev pub event_domain : RawNet → List ℕ → Option Word
event_domain net name =
    option_and_then (λ (e : RawEvent). e.domain)
    (find (λ (e : RawEvent). is_same name e.name.name) net.events)

-- the name of a state variable's domain
abbrev pub state_domain : RawMachine → List ℕ → Option Word
state_domain m name =
    option_map (λ (s : RawState). s.domain)
    (find (λ (s : RawState). is_same name s.name.name) m.states)

-- the name of the domain of a state variable, or else of an event
abbrev pub var_domain : RawNet → RawMachine → List ℕ → Option Word
var_domain net m name =
    if is_among (names_of (state_words m)) name then state_domain m name else event_domain net name

-- the values of that domain
abbrev pub shape_at : RawNet → Option Word → Option RawShape
shape_at net domain = option_and_then (λ (w : Word). shape_of net w.name) domain

-- how many values: one where there is no domain
abbrev pub count_at : RawNet → Option Word → ℕ
count_at net None = 1
count_at net (Some w) = unwrap_or (option_map count_of (shape_of net w.name)) 0

-- how many codes an event has: one for absence, and one per value
abbrev pub event_codes : RawNet → Word → ℕ
event_codes net w = 1 + count_at net (event_domain net w.name)

-- how many codes a state variable has
abbrev pub state_codes : RawNet → RawState → ℕ
state_codes net s = count_at net (Some s.domain)

-- the name of a condition
abbrev pub cond_word : RawCond → Word
cond_word (conds.Present name) = name
cond_word (conds.Absent name) = name
cond_word (conds.Is name value) = name
cond_word (conds.OneOf name values) = name

-- the variables of a machine: its inputs, then its state variables
abbrev pub var_words : RawMachine → List Word
var_words m = m.inputs ++ state_words m

-- how many codes the variables of a machine have: the inputs, then the state variables
abbrev pub var_sizes : RawNet → RawMachine → List ℕ
var_sizes net m = map (event_codes net) m.inputs ++ map (state_codes net) m.states
