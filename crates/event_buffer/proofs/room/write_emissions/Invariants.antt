use Rattle.std.proofs.Common.{◌≡◌, ◌≤◌, ◌++◌, length, map, take, drop}
use Rattle.transition_table.specs.declared.decl.Party.TheVariants.{Machine as Sender}
use Rattle.journals.specs.Journals.{outputs_of}
use Rattle.event_buffer.specs.Arrivals.{arrival_of}
use Rattle.event_buffer.proofs.WrittenDeliveries.{given_by}
use Rattle.event_buffer.proofs.room.write_emissions.Given as goal

-- those of the outputs from this one on are left
abbrev pub invariant-loop-k : goal.invariant-loop-k
invariant-loop-k l =
    let outputs = outputs_of l.net l.m in
    (l.count ≤ length l.room)
    × (length l.room ≡ length l.fn.room)
    × (take l.count l.room
    ++ map (arrival_of l.stamp) (given_by l.net (Sender l.m) (drop l.k outputs) (drop l.k l.outs))
    ≡ map (arrival_of l.stamp) (given_by l.net (Sender l.m) outputs l.outs))
