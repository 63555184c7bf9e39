use Rattle.polis_base.specs.Lists.{AgreeBelow}
use Rattle.machine_equiv.specs.inner.Agreeing.{IsSameState}
use Rattle.machine_equiv.proofs.shape.same_states.Given as goal

abbrev pub invariant-loop-k : goal.invariant-loop-k
invariant-loop-k l = AgreeBelow (IsSameState l.a l.b) l.xs l.ys l.k
