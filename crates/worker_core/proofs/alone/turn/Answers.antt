use Rattle.std.proofs.Common.{subst}
use Rattle.journals.specs.declared.stamped.CoreStep.TheVariants.{Feed}
use Rattle.worker_core.specs.inner.Turns.{Took}
use Rattle.worker_core.proofs.IsStill.{not_taken, turn_stops}
use Rattle.worker_core.proofs.alone.turn.Goals as goal

pub returns-clause-stopped : goal.returns-clause-stopped
returns-clause-stopped g c = λ none.
    turn_stops c.args.core.now c.turn_among.new.core c.turn_among-2.new.core c.args.first
    c.machines-machines.result
    (subst (Took c.args.core.now c.turn_among.new.core) c.in-None.is c.in_ok-step.ensures.took)
    (subst (Took c.turn_among.new.core c.turn_among-2.new.core) c.in-None-2.is
    c.in_ok-step-2.ensures.took)
    (c.in_ok-step.ensures.still c.in-None.is)
    (c.in_ok-step-2.ensures.still c.in-None-2.is) c.machines-machines.ensures.others
    (not_taken c.turn_among-2.new.core c.step.new.self Feed c.in_ok-step-3.field-0
    c.in_ok-step-3.ensures.taken c.in_ok-step-3.ensures.state c.if-branch.false).0
