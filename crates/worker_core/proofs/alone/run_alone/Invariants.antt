use Rattle.std.proofs.Common.{◌≤◌}
use Rattle.worker_core.proofs.WholeRuns.{IsAlone}
use Rattle.worker_core.proofs.alone.run_alone.Given as goal

abbrev pub invariant-loop : goal.invariant-loop
invariant-loop g l = record {
  alone : IsAlone l.net l.trace l.core l.made l.counter;
  few : l.made ≤ l.count;
}
