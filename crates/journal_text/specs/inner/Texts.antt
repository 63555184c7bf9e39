-- The texts that are written: journals in both versions, and outputs.
use Rattle.std.specs.Prelude.{ℕ, ◌+◌, Bool, cond, List, map, filter, flat_map, Some, codes, []}
use Rattle.domains.specs.Tables.{fits}
use Rattle.transition_table.specs.NetworkFacts.{values_of, event_values}
use Rattle.transition_table.specs.declared.decl.StateDecl.{StateDecl}
use Rattle.transition_table.specs.declared.network.Network.{Network}
use Rattle.journals.specs.Outputs.{goes_out}
use Rattle.journal_text.specs.Texts.{space, event_line}

-- what stands before an item, where some item stands before it or none does
abbrev pub lead : Bool → List ℕ
lead some = cond some space []

-- what stands after the items, where there are some or none
abbrev pub end_mark : Bool → List ℕ
end_mark some = cond some [] (codes "-")

-- a line for each of the events that goes to the environment
abbrev pub output_lines : Network → List (ℕ × ℕ) → List ℕ
output_lines net events = flat_map (event_line net) (filter (λ p. goes_out net p.0) events)

-- how many codes an event has: 0, and one for each value
abbrev pub event_size : Network → ℕ → ℕ
event_size net e = 1 + event_values net.domains net.events e

-- how many codes a state variable has: one for each value
abbrev pub state_size : Network → StateDecl → ℕ
state_size net variable = values_of net.domains (Some variable.domain)

-- how many codes there are for what it is set to: 0, and one for each value
abbrev pub set_size : Network → StateDecl → ℕ
set_size net variable = 1 + state_size net variable

-- a code for each event
abbrev pub are_event_codes : Network → List ℕ → List ℕ → Bool
are_event_codes net events codes = fits (map (event_size net) events) codes

-- a value for each state variable
abbrev pub are_values : Network → List StateDecl → List ℕ → Bool
are_values net variables values = fits (map (state_size net) variables) values

-- a code for each state variable
abbrev pub are_settings : Network → List StateDecl → List ℕ → Bool
are_settings net variables codes = fits (map (set_size net) variables) codes
