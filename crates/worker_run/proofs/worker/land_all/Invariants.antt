use Rattle.std.proofs.Common.{◌-◌, IsTrue, length}
use Rattle.event_buffer.specs.Arrivals.{are_arrivals}
use Rattle.worker_run.specs.inner.Turns.{Counts}
use Rattle.worker_run.proofs.PassedDeliveries.{Passed}
use Rattle.worker_run.proofs.worker.land_all.Given as goal

-- what is left may arrive, and what was passed is counted
abbrev pub invariant-loop-a : goal.invariant-loop-a
invariant-loop-a g l = record {
  left : IsTrue (are_arrivals g.N.Naming.net l.out.arrivals);
  passed : Passed l.fn.out l.out;
  counted : Counts l.fn.worker.budget l.worker.budget
      (length l.fn.out.arrivals - length l.out.arrivals);
}

abbrev pub decreases-loop-a : goal.decreases-loop-a
decreases-loop-a g l = length l.out.arrivals
