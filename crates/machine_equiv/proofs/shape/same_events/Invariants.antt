use Rattle.polis_base.specs.Lists.{AgreeBelow}
use Rattle.machine_equiv.specs.inner.Agreeing.{IsSameEvent}
use Rattle.machine_equiv.proofs.shape.same_events.Given as goal

abbrev pub invariant-loop-e : goal.invariant-loop-e
invariant-loop-e l = AgreeBelow (IsSameEvent l.a l.b) l.a.events l.b.events l.e
