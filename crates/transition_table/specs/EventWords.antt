-- The words of the values of events.
use Rattle.std.specs.Prelude.{ℕ, List, [], slice_get, Option, option_map, unwrap_or}
use Rattle.domains.specs.Domains.{words_of}
use Rattle.transition_table.specs.declared.decl.EventDecl.{EventDecl}
use Rattle.transition_table.specs.declared.network.Network.{Network}

-- the words of the values of the network's domain of this number, in order
abbrev pub words_in : Network → ℕ → List (List ℕ)
words_in net d = unwrap_or (option_map words_of (slice_get net.domains d)) []

-- the words of the event's values, none where it is pure
abbrev pub event_words : Network → EventDecl → Option (List (List ℕ))
event_words net event = option_map (words_in net) event.domain
