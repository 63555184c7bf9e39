use Rattle.polis_base.specs.Lists.{AgreeBelow}
use Rattle.machine_equiv.specs.inner.Agreeing.{IsSameMachine}
use Rattle.machine_equiv.proofs.shape.same_machines.Given as goal

abbrev pub invariant-loop-k : goal.invariant-loop-k
invariant-loop-k l = AgreeBelow (IsSameMachine l.a l.b) l.a.machines l.b.machines l.k
