use Rattle.std.proofs.Common.{◌-◌}
use Rattle.worker_run.specs.inner.Turns.{StaysWithin}
use Rattle.worker_run.proofs.worker.work.Given as goal

-- the count stays within the budget
abbrev pub invariant-loop-here : goal.invariant-loop-here
invariant-loop-here g l = StaysWithin l.fn.worker.budget l.here.budget

-- what is left of the budget
abbrev pub decreases-loop-here : goal.decreases-loop-here
decreases-loop-here g l = l.here.budget.most - l.here.budget.used
