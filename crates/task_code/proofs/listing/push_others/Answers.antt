use Rattle.std.proofs.Common.{◌++◌, drop}
use Rattle.task_code.specs.Listings.{label}
use Rattle.task_code.specs.inner.Labels.{others}
use Rattle.task_code.proofs.NumberedLines.{more_others}
use Rattle.task_code.proofs.listing.push_others.Goals as goal

pub loop-k-preserved : goal.loop-k-preserved
loop-k-preserved c =
    more_others (label c.args.net.now c.args.machine.now) c.args.order.now c.loop-k.k
    c.get.result.now c.loop-k.out c.push.new.self c.push_label.new.out
    (c.args.out.now ++ others (label c.args.net.now c.args.machine.now) (drop 1 c.args.order.now))
    c.loop-k.invariant c.get.ensures c.in_ok-push.ensures.ok c.in_ok-push_label.ensures
