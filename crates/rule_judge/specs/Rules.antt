-- The rules: for each the places where it is broken. A rule may rest on the rules before it.
use Rattle.std.specs.Prelude.{ℕ, Bool, not, ◌&&◌, ◌||◌, ◌==◌, false, nat_le, nat_lt, List, [], ◌∷◌, ◌++◌, map, flat_map, filter, length, take, drop, Option, Some, None, is_some, option_to_list}
use Rattle.polis_base.specs.declared.limits.TheConstants.{DOMAINS_MAX, DOMAIN_SIZE_MAX, EVENTS_MAX, INPUTS_MAX, MACHINES_MAX, OUTPUTS_MAX, PRIORITY_MAX, ROWS_MAX, SNAPSHOTS_MAX, STATES_MAX}
use Rattle.std.specs.List.{list_any}
use Rattle.domains.specs.Names.{is_same}
use Rattle.domains.specs.Tables.{product}
use Rattle.net_reader.specs.declared.raw.Word.{Word}
use Rattle.net_reader.specs.declared.raw.RawShape.{RawShape}
use Rattle.net_reader.specs.declared.raw.RawShape.TheVariants as shapes
use Rattle.net_reader.specs.declared.raw.RawDomain.{RawDomain}
use Rattle.net_reader.specs.declared.raw.RawEnv.{RawEnv}
use Rattle.net_reader.specs.declared.raw.RawEvent.{RawEvent}
use Rattle.net_reader.specs.declared.raw.RawState.{RawState}
use Rattle.net_reader.specs.declared.raw.RawCond.{RawCond}
use Rattle.net_reader.specs.declared.raw.RawCond.TheVariants as conds
use Rattle.net_reader.specs.declared.raw.RawSource.{RawSource}
use Rattle.net_reader.specs.declared.raw.RawSource.TheVariants as sources
use Rattle.net_reader.specs.declared.raw.RawAct.{RawAct}
use Rattle.net_reader.specs.declared.raw.RawAct.TheVariants as acts
use Rattle.net_reader.specs.declared.raw.RawRow.{RawRow}
use Rattle.net_reader.specs.declared.raw.RawMachine.{RawMachine}
use Rattle.net_reader.specs.declared.raw.RawNet.{RawNet}
use Rattle.net_names.specs.Places.{unless}
use Rattle.net_names.specs.Numbers.{is_name_of, no_name, missing, repeated}
use Rattle.net_names.specs.Values.{count_of, no_value}
use Rattle.net_names.specs.Scopes.{domain_words, event_words, machine_words, state_words, is_from_env, is_to_env, all_outputs, all_inputs, shape_of, event_domain, state_domain, var_domain, shape_at, count_at, cond_word, var_sizes, var_words}

-- the version is 1 or 2
abbrev pub rule_1 : RawNet → List ℕ
rule_1 net = unless (net.version.number == 1 || net.version.number == 2) net.version.at

-- the place of the first word beyond so many
abbrev pub beyond : ℕ → List Word → List ℕ
beyond most words = map (λ (w : Word). w.at) (take 1 (drop most words))

-- at most 64 domains, 256 events and 64 machines
abbrev pub rule_2 : RawNet → List ℕ
rule_2 net = beyond DOMAINS_MAX (domain_words net) ++ beyond EVENTS_MAX (event_words net)
    ++ beyond MACHINES_MAX (machine_words net)

-- the domains have distinct names, and so have the events and the machines
abbrev pub rule_3 : RawNet → List ℕ
rule_3 net = repeated no_name (domain_words net) ++ repeated no_name (event_words net)
    ++ repeated no_name (machine_words net)

abbrev pub disorder : RawShape → List ℕ
disorder (shapes.Names words) = repeated no_name words
disorder (shapes.Range first last) = unless (nat_le first.number last.number) last.at

-- the names of a domain are distinct, and the first number of a range isn't above its last
abbrev pub rule_4 : RawNet → List ℕ
rule_4 net = flat_map (λ (d : RawDomain). disorder d.shape) net.domains

-- a domain has at most 32 values
abbrev pub rule_5 : RawNet → List ℕ
rule_5 net = flat_map (λ (d : RawDomain). unless (nat_le (count_of d.shape) DOMAIN_SIZE_MAX) d.name.at)
    net.domains

-- the domains of events and of state variables
abbrev pub used_domains : RawNet → List Word
used_domains net = flat_map (λ (e : RawEvent). option_to_list e.domain) net.events
    ++ flat_map (λ (m : RawMachine). map (λ (s : RawState). s.domain) m.states) net.machines

-- the domain of an event or a state variable is declared
abbrev pub rule_6 : RawNet → List ℕ
rule_6 net = missing (is_name_of (domain_words net)) (used_domains net)

-- a name in an input or output list is an event
abbrev pub rule_7 : RawNet → List ℕ
rule_7 net = flat_map
    (λ (m : RawMachine). missing (is_name_of (event_words net)) (m.inputs ++ m.outputs))
    net.machines

-- In a machine no event stands twice in the inputs or twice in the outputs, and the state variables
-- have distinct names, which differ from those of its inputs and outputs.
abbrev pub rule_8 : RawNet → List ℕ
rule_8 net = flat_map (λ (m : RawMachine). repeated no_name m.inputs ++ repeated no_name m.outputs
    ++ repeated (is_name_of (m.inputs ++ m.outputs)) (state_words m)) net.machines

-- at most 16 inputs, 16 outputs, 8 state variables and 512 rows
abbrev pub is_small : RawMachine → Bool
is_small m = nat_le (length m.inputs) INPUTS_MAX && nat_le (length m.outputs) OUTPUTS_MAX
    && nat_le (length m.states) STATES_MAX && nat_le (length m.rows) ROWS_MAX

abbrev pub rule_9 : RawNet → List ℕ
rule_9 net = flat_map (λ (m : RawMachine). unless (is_small m) m.name.at) net.machines

-- a priority is at most 255
abbrev pub rule_10 : RawNet → List ℕ
rule_10 net = flat_map (λ (m : RawMachine). unless (nat_le m.priority.number PRIORITY_MAX) m.priority.at)
    net.machines

-- the words of the events whose side to the environment passes
abbrev pub events_where : (RawEnv → Bool) → RawNet → List Word
events_where test net =
    map (λ (e : RawEvent). e.name) (filter (λ (e : RawEvent). test e.env) net.events)

-- No event stands in two output lists, and one from the environment in none. By rule 8 no list has
-- one twice.
abbrev pub rule_11 : RawNet → List ℕ
rule_11 net = repeated (is_name_of (events_where (λ env. is_from_env env) net)) (all_outputs net)

-- an event that isn't from the environment stands in some output list
abbrev pub rule_12 : RawNet → List ℕ
rule_12 net = missing (is_name_of (all_outputs net))
    (events_where (λ env. not (is_from_env env)) net)

-- an event that isn't to the environment stands in some input list
abbrev pub rule_13 : RawNet → List ℕ
rule_13 net = missing (is_name_of (all_inputs net)) (events_where (λ env. not (is_to_env env)) net)

-- an initial value is a value of the variable's domain
abbrev pub rule_14 : RawNet → List ℕ
rule_14 net = flat_map
    (λ (m : RawMachine). flat_map (λ (s : RawState). no_value (shape_of net s.domain.name) s.init)
    m.states) net.machines

-- the places that f finds in the conditions of each machine
abbrev pub in_conds : (RawMachine → RawCond → List ℕ) → RawNet → List ℕ
in_conds f net =
    flat_map (λ (m : RawMachine). flat_map (λ (row : RawRow). flat_map (f m) row.conds) m.rows)
    net.machines

abbrev pub unknown : RawMachine → RawCond → List ℕ
unknown m c = unless (is_name_of (var_words m) (cond_word c).name) (cond_word c).at

-- a name in a condition is an input or a state variable of the machine
abbrev pub rule_15 : RawNet → List ℕ
rule_15 net = in_conds unknown net

-- what is asked to be present or absent is an input, and what is asked for a value has a domain
abbrev pub suits : RawNet → RawMachine → RawCond → Bool
suits net m (conds.Present w) = is_name_of m.inputs w.name
suits net m (conds.Absent w) = is_name_of m.inputs w.name
suits net m (conds.Is w value) = is_some (var_domain net m w.name)
suits net m (conds.OneOf w values) = is_some (var_domain net m w.name)

abbrev pub unsuited : RawNet → RawMachine → RawCond → List ℕ
unsuited net m c = unless (suits net m c) (cond_word c).at

-- a bare name and a name after `absent` are inputs, and a name with values is a state variable or
-- an event with a domain
abbrev pub rule_16 : RawNet → List ℕ
rule_16 net = in_conds (unsuited net) net

abbrev pub wrong_values : RawNet → RawMachine → RawCond → List ℕ
wrong_values net m (conds.Present w) = []
wrong_values net m (conds.Absent w) = []
wrong_values net m (conds.Is w value) = no_value (shape_at net (var_domain net m w.name)) value
wrong_values net m (conds.OneOf w values) =
    flat_map (no_value (shape_at net (var_domain net m w.name))) values

-- a value in a condition is a value of the domain
abbrev pub rule_17 : RawNet → List ℕ
rule_17 net = in_conds (wrong_values net) net

-- the names behind `emit`, and those of the variables that are set
abbrev pub emitted : RawAct → List Word
emitted (acts.Emit w value) = w ∷ []
emitted (acts.Set w value) = []

abbrev pub set_names : RawAct → List Word
set_names (acts.Emit w value) = []
set_names (acts.Set w value) = w ∷ []

-- the names that are none of these, or that an earlier word has
abbrev pub not_once : List Word → List Word → List ℕ
not_once declared words = missing (is_name_of declared) words ++ repeated no_name words

-- an emitted event is an output of the machine, a set name is a state variable, and in a row none
-- comes twice
abbrev pub rule_18 : RawNet → List ℕ
rule_18 net = flat_map
    (λ (m : RawMachine). flat_map (λ (row : RawRow). not_once m.outputs (flat_map emitted row.acts)
    ++ not_once (state_words m) (flat_map set_names row.acts)) m.rows) net.machines

-- a value that is written is a value of the domain
abbrev pub wrong_value : Option RawShape → RawSource → List ℕ
wrong_value shape (sources.Value value) = no_value shape value
wrong_value shape (sources.Input w) = []
wrong_value shape (sources.Add w number) = []

-- an emission has a source exactly where its event has a domain
abbrev pub wrong_emission : RawNet → Word → Option Word → Option RawSource → List ℕ
wrong_emission net w None None = []
wrong_emission net w None (Some source) = w.at ∷ []
wrong_emission net w (Some d) None = w.at ∷ []
wrong_emission net w (Some d) (Some source) = wrong_value (shape_of net d.name) source

abbrev pub wrong_act : RawNet → RawMachine → RawRow → RawAct → List ℕ
wrong_act net m row (acts.Emit w source) = wrong_emission net w (event_domain net w.name) source
wrong_act net m row (acts.Set w source) = wrong_value (shape_at net (state_domain m w.name)) source

-- the places that f finds in the actions of each row of each machine
abbrev pub in_acts : (RawMachine → RawRow → RawAct → List ℕ) → RawNet → List ℕ
in_acts f net =
    flat_map (λ (m : RawMachine). flat_map (λ (row : RawRow). flat_map (f m row) row.acts) m.rows)
    net.machines

-- and a value in an action is a value of the domain
abbrev pub rule_19 : RawNet → List ℕ
rule_19 net = in_acts (wrong_act net) net

-- a machine has at most 65,536 snapshots
abbrev pub rule_20 : RawNet → List ℕ
rule_20 net = flat_map
    (λ (m : RawMachine). unless (nat_le (product (var_sizes net m)) SNAPSHOTS_MAX) m.name.at) net.machines

-- where an action takes its value from, if it gives one
abbrev pub source_of : RawAct → Option RawSource
source_of (acts.Emit w source) = source
source_of (acts.Set w source) = Some source

-- the domain of what it gives the value
abbrev pub target_domain : RawNet → RawMachine → RawAct → Option Word
target_domain net m (acts.Emit w source) = event_domain net w.name
target_domain net m (acts.Set w source) = state_domain m w.name

-- the place of the name after `value`, unless the test holds of it
abbrev pub wrong_input : (List ℕ → Bool) → Option RawSource → List ℕ
wrong_input test None = []
wrong_input test (Some (sources.Value value)) = []
wrong_input test (Some (sources.Input w)) = unless (test w.name) w.at
wrong_input test (Some (sources.Add w number)) = []

-- an input of the machine that has a domain
abbrev pub is_valued : RawNet → RawMachine → List ℕ → Bool
is_valued net m name = is_name_of m.inputs name && is_some (event_domain net name)

abbrev pub no_input : RawNet → RawMachine → RawRow → RawAct → List ℕ
no_input net m row act = wrong_input (is_valued net m) (source_of act)

-- a name after `value` is an input of the machine that has a domain
abbrev pub rule_21 : RawNet → List ℕ
rule_21 net = in_acts (no_input net) net

-- the condition says that the event is present
abbrev pub shows : List ℕ → RawCond → Bool
shows name (conds.Present w) = is_same name w.name
shows name (conds.Absent w) = false
shows name (conds.Is w value) = is_same name w.name
shows name (conds.OneOf w values) = is_same name w.name

abbrev pub not_shown : RawNet → RawMachine → RawRow → RawAct → List ℕ
not_shown net m row act = wrong_input (λ name. list_any (shows name) row.conds) (source_of act)

-- some condition of the row says that the input is present
abbrev pub rule_22 : RawNet → List ℕ
rule_22 net = in_acts (not_shown net) net

-- both are named, and by one name
abbrev pub same_domain : Option Word → Option Word → Bool
same_domain None other = false
same_domain (Some d) None = false
same_domain (Some d) (Some e) = is_same d.name e.name

abbrev pub other_domain : RawNet → RawMachine → RawRow → RawAct → List ℕ
other_domain net m row act =
    wrong_input (λ name. same_domain (event_domain net name) (target_domain net m act))
    (source_of act)

-- the input has the domain of what gets its value
abbrev pub rule_23 : RawNet → List ℕ
rule_23 net = in_acts (other_domain net) net

-- the place of the name before `+`, unless the test holds of it
abbrev pub wrong_sum : (List ℕ → Bool) → Option RawSource → List ℕ
wrong_sum test None = []
wrong_sum test (Some (sources.Value value)) = []
wrong_sum test (Some (sources.Input w)) = []
wrong_sum test (Some (sources.Add w number)) = unless (test w.name) w.at

abbrev pub other_name : RawNet → RawMachine → RawRow → RawAct → List ℕ
other_name net m row (acts.Emit w source) = wrong_sum no_name source
other_name net m row (acts.Set w source) = wrong_sum (λ name. is_same name w.name) (Some source)

-- what stands before `+` is the variable that is set
abbrev pub rule_24 : RawNet → List ℕ
rule_24 net = in_acts (other_name net) net

-- the number after `+`, where it isn't below this one
abbrev pub not_below : ℕ → Option RawSource → List ℕ
not_below count None = []
not_below count (Some (sources.Value value)) = []
not_below count (Some (sources.Input w)) = []
not_below count (Some (sources.Add w number)) = unless (nat_lt number.number count) number.at

abbrev pub too_much : RawNet → RawMachine → RawRow → RawAct → List ℕ
too_much net m row act = not_below (count_at net (target_domain net m act)) (source_of act)

-- what is added is below the number of the domain's values
abbrev pub rule_25 : RawNet → List ℕ
rule_25 net = in_acts (too_much net) net
