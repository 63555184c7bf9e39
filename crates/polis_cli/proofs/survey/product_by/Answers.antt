use Rattle.std.proofs.Common.{subst, IfSome}
use Rattle.std.specs.Prelude.{Option}
use Rattle.transition_table.specs.declared.network.Network.{Network}
use Rattle.polis_cli.specs.inner.Survey.{IsSureMonitor}
use Rattle.polis_cli.proofs.survey.product_by.Goals as goal

pub new-reactor-requires : goal.new-reactor-requires
new-reactor-requires g c =
    (subst (λ (m : Option Network). IfSome m (IsSureMonitor c.args.loaded.now.inputs.net))
    c.in-Some.is c.requires.fits.monitor).0
