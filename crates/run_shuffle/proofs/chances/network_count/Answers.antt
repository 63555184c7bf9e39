use Rattle.std.proofs.Common.{arith}
use Rattle.run_shuffle.proofs.WaysGive.{network_counted, owed_few}
use Rattle.run_shuffle.proofs.chances.network_count.Goals as goal

pub overflow_add-result : goal.overflow_add-result
overflow_add-result c =
    let few = owed_few c.args.config.now c.args.ways.now c.requires in
    let one = c.len.ensures.few in
    omega (arith, few, one)

pub returns : goal.returns
returns c =
    network_counted c.sending_laws.ensures c.args.config.now c.args.ways.now c.len.result
    c.journal-journal.ensures.legal c.requires c.len.ensures.members
