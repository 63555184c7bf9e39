use Rattle.std.proofs.Common.{◌≡◌, take}
use Rattle.worker_core.specs.Cores.{run_steps}
use Rattle.worker_core.proofs.running.take_all.Given as goal

abbrev pub invariant-loop-step : goal.invariant-loop-step
invariant-loop-step g l =
    l.core ≡ record l.fn.core
    { state = run_steps l.fn.core.net l.fn.core.state (take l.step-index l.steps) }
