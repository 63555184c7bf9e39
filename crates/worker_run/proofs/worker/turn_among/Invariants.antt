use Rattle.worker_run.specs.inner.Turns.{Counts}
use Rattle.worker_run.proofs.worker.turn_among.Given as goal

-- nothing was counted
abbrev pub invariant-loop-own : goal.invariant-loop-own
invariant-loop-own g l = Counts l.fn.worker.budget l.worker.budget 0
