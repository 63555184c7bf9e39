use Rattle.std.proofs.Common.{◌≡◌, length, flat_map, take}
use Rattle.journals.specs.Schedules.{receivers_of}
use Rattle.event_buffer.proofs.room.make_room.Given as goal

-- there is room for the receivers of the outputs before this one
abbrev pub invariant-loop-k : goal.invariant-loop-k
invariant-loop-k l =
    length l.room ≡ length (flat_map (receivers_of l.net) (take l.k l.machine.outputs))
