use Rattle.transition_table.specs.declared.machine.Machine.{Machine}
use Rattle.journal_text.proofs.NameNumbers.{one_more_noted}
use Rattle.journal_text.proofs.index.number_machines.Goals as goal

pub loop-m-preserved : goal.loop-m-preserved
loop-m-preserved c =
    one_more_noted (λ (machine : Machine). machine.name) c.args.net.now.machines c.loop-m.m c.get.result.now
    c.loop-m.table c.note.new.self c.get.ensures c.in_ok-note.ensures.number c.loop-m.invariant
