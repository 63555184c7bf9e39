use Rattle.std.proofs.Common.{refl}
use Rattle.polis_base.specs.Draws.{after}
use Rattle.net_gen.specs.Networks.{tick_rows, value_rows}
use Rattle.net_gen.proofs.worked.worked_draws.Goals as goal

pub returns-clause-count : goal.returns-clause-count
unfolding after
returns-clause-count c = refl

pub returns-clause-priority : goal.returns-clause-priority
unfolding after
returns-clause-priority c = refl

pub returns-clause-tick_rows : goal.returns-clause-tick_rows
unfolding after tick_rows
returns-clause-tick_rows c = refl

pub returns-clause-value_rows : goal.returns-clause-value_rows
unfolding after value_rows
returns-clause-value_rows c = refl

pub returns-clause-last : goal.returns-clause-last
unfolding after
returns-clause-last c = refl

pub returns-clause-tick : goal.returns-clause-tick
unfolding after
returns-clause-tick c = refl
