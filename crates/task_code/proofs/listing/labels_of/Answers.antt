use Rattle.task_code.proofs.LabelSteps.{made_more}
use Rattle.task_code.proofs.listing.labels_of.Goals as goal

pub loop-item-preserved : goal.loop-item-preserved
loop-item-preserved c =
    made_more c.args.net.now c.args.machine.now c.loop-item.labels c.push.new.self
    c.new-text.result c.push_label.new.out c.loop-item.item c.loop-item.invariant
    c.new-text.ensures c.in_ok-push_label.ensures c.in_ok-push.ensures.ok
