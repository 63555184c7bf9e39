use Rattle.std.proofs.Common.{◌≡◌, ◌++◌, drop, flat_map}
use Rattle.graph_drawing.specs.Drawings.{event_edges}
use Rattle.graph_drawing.proofs.network_text.push_events.Given as goal

-- what is written, with what is left, is the whole
abbrev pub invariant-loop-event : goal.invariant-loop-event
invariant-loop-event l = l.into ++ flat_map (event_edges l.net) (drop l.event-index l.events)
    ≡ l.fn.into ++ flat_map (event_edges l.net) l.net.events
