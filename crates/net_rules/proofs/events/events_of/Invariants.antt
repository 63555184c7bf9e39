-- The events that were made are those of the declarations that were gone over.
use Rattle.std.proofs.Common.{◌≡◌, map, take}
use Rattle.net_rules.specs.Networks.{event_of}
use Rattle.net_rules.proofs.events.events_of.Given as goal

abbrev pub invariant-loop-event : goal.invariant-loop-event
invariant-loop-event l =
    l.events ≡ map (event_of l.scope.raw.now) (take l.event-index l.scope.raw.now.events)
