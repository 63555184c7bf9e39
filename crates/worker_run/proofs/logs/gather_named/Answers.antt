use Rattle.std.proofs.Common.{subst, sym}
use Rattle.transition_table.specs.Transitions.{AreDeterministic}
use Rattle.worker_run.proofs.logs.gather_named.Goals as goal

pub cells_of-requires-clause-deterministic : goal.cells_of-requires-clause-deterministic
cells_of-requires-clause-deterministic g c =
    subst AreDeterministic (sym c.network-net.ensures) c.deterministic.ensures
