use Rattle.std.proofs.Common.{◌≡◌, ◌++◌, map, take}
use Rattle.wave_text.specs.declared.signal.Signal.TheVariants.{Value}
use Rattle.wave_text.proofs.signal.push_values.Given as goal

-- those before this one stand at the end
abbrev pub invariant-loop-event : goal.invariant-loop-event
invariant-loop-event l = l.into ≡ l.fn.into ++ map Value (take l.event-index l.events)
