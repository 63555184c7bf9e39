use Rattle.worker_core.proofs.AreParts.{parts_after}
use Rattle.worker_core.proofs.running.Core.step.Goals as goal

pub invariant_of-self : goal.invariant_of-self
invariant_of-self g c =
    parts_after c.self.inside.net.now c.self.inside.trace.now c.self.inside.parts c.step.new.self
    c.args.step c.step.result c.core_laws.ensures.steps c.self.invariant
    c.step.ensures.step c.step.ensures.moments c.step.ensures.idle c.step.ensures.err
