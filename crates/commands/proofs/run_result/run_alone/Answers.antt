use Rattle.std.proofs.Common.{subst}
use Rattle.net_core.specs.Moments.{Moment}
use Rattle.commands.specs.inner.Run.{CarriesOn}
use Rattle.commands.proofs.IsRan.{ran_alone}
use Rattle.commands.proofs.run_result.run_alone.Goals as goal

pub returns-in-Ok : goal.returns-in-Ok
returns-in-Ok g c =
    let net = g.R.Reactor.meaning c.args.r.now in
    ran_alone net c.args.trace.now c.args.limit c.in-Ok.ran
    (subst (λ (m : Moment). CarriesOn net m.trace c.args.limit m.journal 0 c.in-Ok.ran)
    c.in_ok-config.ensures c.in-Ok.ensures)
