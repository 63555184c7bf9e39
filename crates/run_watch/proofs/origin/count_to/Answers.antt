use Rattle.std.proofs.Common.{arith}
use Rattle.run_watch.proofs.Telling.{count_after}
use Rattle.run_watch.proofs.origin.count_to.Goals as goal

pub loop-p-preserved : goal.loop-p-preserved
loop-p-preserved c =
    let more =
    count_after c.args.watch.now c.loop-p.p c.args.m c.get-entry.result.now c.get-entry.ensures in
    let one = c.one_if_to-count.ensures.count in
    let few = c.one_if_to-count.ensures.few in
    let is = c.loop-p.invariant.is in
    let low = c.loop-p.invariant.few in
    record { is = omega arith; few = omega arith }
