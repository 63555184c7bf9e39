use Rattle.std.proofs.Common.{refl}
use Rattle.polis_base.specs.Draws.{after}
use Rattle.net_gen.proofs.worked.worked_items.Goals as goal

pub returns-clause-first : goal.returns-clause-first
unfolding after
returns-clause-first c = refl

pub returns-clause-tenth : goal.returns-clause-tenth
unfolding after
returns-clause-tenth c = refl
