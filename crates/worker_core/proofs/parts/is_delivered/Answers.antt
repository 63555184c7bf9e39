use Rattle.std.proofs.Common.{◌-◌, false, ◌∙◌, arith}
use Rattle.journals.specs.Moved.{is_dep}
use Rattle.worker_core.proofs.OwnMoments.{last_at}
use Rattle.worker_core.proofs.parts.is_delivered.Goals as goal

pub returns : goal.returns
returns c =
    c.is_delivery.ensures
    ∙ last_at (λ x. is_dep x.entry) false c.args.log.now (c.len-n.result - 1) c.get.result.now
    (omega (arith, c.len-n.ensures, c.if-n-eq0.false)) c.get.ensures
