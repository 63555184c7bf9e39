use Rattle.std.proofs.Common.{◌∙◌}
use Rattle.layer_calls.proofs.Landings.{landing_fits}
use Rattle.layer_calls.proofs.tests.calls.appends.Goals as goal

pub append-requires-clause-fits : goal.append-requires-clause-fits
append-requires-clause-fits c =
    landing_fits c.in_ok-config.config.net c.landing.result
    ((λ i. (c.in_ok-config.ensures i).net) ∙ c.requires.network) c.landing.ensures
