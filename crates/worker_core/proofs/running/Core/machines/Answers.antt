use Rattle.std.proofs.Common.{subst, arith}
use Rattle.worker_core.specs.Parts.{state_of}
use Rattle.worker_core.specs.Running.{CoreMoment}
use Rattle.worker_core.specs.inner.Turns.{IsStill}
use Rattle.worker_core.proofs.IsStill.{still_past}
use Rattle.worker_core.proofs.running.Core.machines.Goals as goal

pub returns-clause-others : goal.returns-clause-others
returns-clause-others c = λ m past.
    subst (λ (v : CoreMoment). IsStill v.net v.state m) c.self.view_is
    (still_past c.self.inside.net.now c.self.inside.trace.now
    (state_of c.self.inside.parts) m c.self.invariant.core
    (let size = c.len.ensures in omega arith))
