use Rattle.std.proofs.Common.{◌+◌, take, sym, subst}
use Rattle.task_image.specs.inner.Heads.{AreHeads}
use Rattle.task_image.proofs.Joined.{heads_next}
use Rattle.task_image.proofs.image.heads_of.Goals as goal

pub loop-k-preserved : goal.loop-k-preserved
loop-k-preserved c =
    subst (λ heads. AreHeads (take (c.loop-k.k + 1) c.args.machines.now) heads)
    (sym c.in_ok-push.ensures.items)
    (heads_next c.args.machines.now c.loop-k.k c.loop-k.heads.items c.get.result.now
    c.in_ok-head.head c.loop-k.invariant c.get.ensures c.in_ok-head.ensures.is
    c.in_ok-head.ensures.head)
