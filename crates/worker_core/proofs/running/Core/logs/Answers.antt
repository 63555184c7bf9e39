use Rattle.std.proofs.Common.{[], get_or, subst}
use Rattle.worker_core.specs.CoreLaws.{RunsWell}
use Rattle.worker_core.specs.Parts.{state_of}
use Rattle.worker_core.specs.Running.{CoreMoment}
use Rattle.worker_core.proofs.ByStamp.{rises_then_rise}
use Rattle.worker_core.proofs.running.Core.logs.Goals as goal

pub returns-clause-well : goal.returns-clause-well
returns-clause-well c =
    subst (λ (v : CoreMoment). RunsWell v.net v.trace v.state) c.self.view_is
    (c.core_laws.ensures.well c.self.inside.net.now c.self.inside.trace.now
    (state_of c.self.inside.parts) c.self.invariant.core)

pub returns-clause-mergeable : goal.returns-clause-mergeable
returns-clause-mergeable c = λ m.
    rises_then_rise 0 (get_or c.self.inside.parts.logs m [])
    (c.self.invariant.core.facts.alone m).rising
