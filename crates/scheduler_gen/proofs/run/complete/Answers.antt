use Rattle.std.proofs.Common.{ap, subst, ◌∙◌}
use Rattle.transition_table.specs.declared.network.Network.{Network}
use Rattle.net_core.specs.Moments.{Moment}
use Rattle.scheduler_gen.specs.Finishing.{IsFinished}
use Rattle.scheduler_gen.proofs.run.complete.Goals as goal

pub returns : goal.returns
returns g c =
    let taken = c.in_ok-config.ensures
    ∙ ap (λ (net : Network). let moment :
    Moment = record { net = net; trace = c.args.trace.now; journal = c.args.from } in
    moment) c.network.ensures in
    let finished = c.in_ok-finished.finished in
    subst (λ (m : Moment). IsFinished m c.args.limit finished.journal finished.complete) taken
    c.in_ok-finished.ensures
