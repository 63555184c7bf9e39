use Rattle.worker_core.proofs.AtStart.{run_more}
use Rattle.worker_core.proofs.running.take_all.Goals as goal

pub loop-step-preserved : goal.loop-step-preserved
loop-step-preserved g c =
    run_more c.args.core.now.net c.args.core.now.trace c.args.core.now.state c.args.steps.now
    c.loop-step.step-index _ c.loop-step.core c.step.new.self
    c.loop-step-test.true c.loop-step.invariant c.in_ok-step.ensures.state
