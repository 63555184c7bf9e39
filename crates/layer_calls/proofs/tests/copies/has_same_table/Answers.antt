use Rattle.std.proofs.Common.{subst, sym}
use Rattle.transition_table.specs.declared.machine.Machine.{Machine}
use Rattle.transition_table.specs.Transitions.{IsDeterministic}
use Rattle.layer_calls.proofs.tests.copies.has_same_table.Goals as goal

pub compare-requires-clause-other : goal.compare-requires-clause-other
compare-requires-clause-other c =
    subst (λ (m : Machine). IsDeterministic m) (sym c.in_ok-copy.ensures) c.requires
