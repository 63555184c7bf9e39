use Rattle.std.proofs.Common.{arith, add-one}
use Rattle.event_buffer.proofs.WrittenDeliveries.{receivers_next}
use Rattle.journals.proofs.Emitted.{output_is_event}
use Rattle.event_buffer.proofs.room.make_room.Goals as goal

pub add_room-requires : goal.add_room-requires
add_room-requires c =
    output_is_event c.args.net.now c.args.m c.get-machine.result.now c.loop-k.k c.get.result.now
    c.get-machine.ensures c.get.ensures

pub loop-k-preserved : goal.loop-k-preserved
loop-k-preserved c =
    let next =
    receivers_next c.args.net.now c.get-machine.result.now.outputs c.loop-k.k c.get.result.now
    c.get.ensures in
    let before = c.loop-k.invariant in
    let made = c.in_ok-add_room.ensures in
    rw add-one (omega arith)
