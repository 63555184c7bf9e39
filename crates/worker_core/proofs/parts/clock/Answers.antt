use Rattle.std.proofs.Common.{◌-◌, arith}
use Rattle.worker_core.proofs.OwnMoments.{last_at}
use Rattle.worker_core.proofs.parts.clock.Goals as goal

pub returns : goal.returns
returns c =
    last_at (λ x. x.stamp) 0 c.args.log.now (c.len-n.result - 1) c.get.result.now
    (omega (arith, c.len-n.ensures, c.if-n-eq0.false)) c.get.ensures
