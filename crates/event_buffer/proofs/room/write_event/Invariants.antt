use Rattle.std.proofs.Common.{◌≡◌, ◌+◌, ◌++◌, length, map, take}
use Rattle.transition_table.specs.declared.decl.Party.TheVariants.{Machine as Sender}
use Rattle.event_buffer.proofs.WrittenDeliveries.{an_arrival}
use Rattle.event_buffer.proofs.room.write_event.Given as goal

-- those for the receivers before this one are written
abbrev pub invariant-loop-k : goal.invariant-loop-k
invariant-loop-k l =
    (length l.room ≡ length l.fn.room)
    × (take (l.count + l.k) l.room
    ≡ take l.count l.fn.room
    ++ map (λ to. an_arrival (Sender l.m) to l.event l.code l.stamp) (take l.k l.receivers))
