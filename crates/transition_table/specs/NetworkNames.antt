-- The names of what a network declares, by number, and the domains of its events.
use Rattle.std.specs.Prelude.{ℕ, List, [], Option, Some, None, slice_get, option_map, unwrap_or}
use Rattle.transition_table.specs.declared.network.Network.{Network}

-- an event's name, and nothing where there is no such event
abbrev pub event_name : Network → ℕ → List ℕ
event_name net e = unwrap_or (option_map (λ event. event.name) (slice_get net.events e)) []

-- a machine's name, and nothing where there is no such machine
abbrev pub machine_name : Network → ℕ → List ℕ
machine_name net m = unwrap_or (option_map (λ machine. machine.name) (slice_get net.machines m)) []

-- what was found of what may have been found
abbrev pub joined : {A : Type 0} → Option (Option A) → Option A
joined None = None
joined (Some found) = found

-- the domain of an event's values, where it has one
abbrev pub event_domain : Network → ℕ → Option ℕ
event_domain net e = joined (option_map (λ event. event.domain) (slice_get net.events e))
