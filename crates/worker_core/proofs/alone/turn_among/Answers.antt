use Rattle.std.proofs.Common.{subst, ◌∙◌}
use Rattle.worker_core.specs.inner.Turns.{Took}
use Rattle.worker_core.proofs.IsStill.{turn_still}
use Rattle.worker_core.proofs.alone.turn_among.Goals as goal

pub loop-m-preserved : goal.loop-m-preserved
loop-m-preserved g c = record {
  same = subst (Took c.loop-m.core c.turn_of.new.core) c.in-None.is c.in_ok-step.ensures.took
      ∙ c.loop-m.invariant.same;
  still = turn_still c.args.core.now c.loop-m.core c.args.from c.loop-m.m c.loop-m.invariant.same
      c.loop-m.invariant.still (c.in_ok-step.ensures.still c.in-None.is);
}
