use Rattle.std.proofs.Common.{◌≡◌, ◌+◌, length}
use Rattle.event_buffer.proofs.room.add_room.Given as goal

abbrev pub invariant-loop-to : goal.invariant-loop-to
invariant-loop-to l = length l.room ≡ length l.fn.room + l.to-index
