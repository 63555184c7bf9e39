use Rattle.journal_chart.proofs.Columns.{column_within, name_of_machine, names_written}
use Rattle.journal_chart.proofs.layout.push_names.Goals as goal

pub get-machine-requires : goal.get-machine-requires
get-machine-requires c =
    column_within c.args.net.now c.args.entries.now c.args.machines.now c.loop-k.k c.get.result.now
    c.requires c.get.ensures

pub loop-k-preserved : goal.loop-k-preserved
loop-k-preserved c =
    names_written c.args.net.now c.args.machines.now c.args.width c.loop-k.k c.get.result.now
    c.args.into.now c.loop-k.into c.push_cell-in-loop-k.new.into c.bytes.result.now c.get.ensures
    (name_of_machine c.args.net.now c.get.result.now c.get-machine.result.now c.bytes.result.now
    c.get-machine.ensures c.bytes.ensures.bytes)
    c.loop-k.invariant c.in_ok-push_cell-2.ensures
