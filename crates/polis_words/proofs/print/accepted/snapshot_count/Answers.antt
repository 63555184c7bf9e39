use Rattle.std.proofs.Common.{arith}
use Rattle.polis_words.proofs.Snapshots.{counted_next, count_within}
use Rattle.polis_words.proofs.print.accepted.snapshot_count.Goals as goal
use Rattle.transition_table.proofs.MachineCounts.{few_snapshots}

pub overflow_mul-count : goal.overflow_mul-count
overflow_mul-count c =
    let within = count_within c.args.machine.now.vars c.loop-k.k c.loop-k.count c.get.result.now
    c.get.ensures c.loop-k.invariant c.len-k-end.ensures.sizes in
    let small = few_snapshots c.args.machine.now in
    omega (arith, within, small)

pub loop-k-preserved : goal.loop-k-preserved
loop-k-preserved c =
    counted_next c.args.machine.now.vars c.loop-k.k c.loop-k.count c.get.result.now c.get.ensures
    c.loop-k.invariant
