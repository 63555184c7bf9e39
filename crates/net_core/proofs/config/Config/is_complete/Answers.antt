use Rattle.std.proofs.Common.{subst, IsTrue}
use Rattle.std.specs.Prelude.{◌↔◌}
use Rattle.journals.specs.Legality.{Complete}
use Rattle.net_core.specs.Moments.{Moment}
use Rattle.net_core.proofs.config.Config.is_complete.Goals as goal

pub is_complete-requires : goal.is_complete-requires
is_complete-requires c = (c.self.inside.journal, c.self.invariant)

pub returns : goal.returns
returns c =
    subst (λ (m : Moment). IsTrue c.is_complete.result ↔ Complete m.net m.trace m.journal)
    c.self.view_is (c.is_complete.ensures c.self.inside.journal c.self.invariant)
