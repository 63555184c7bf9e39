use Rattle.std.proofs.Common.{◌≡◌, length, vec_len, ◌+◌}
use Rattle.worker_run.specs.inner.Gathered.{AreAlone}
use Rattle.worker_run.proofs.logs.logs_of.Given as goal

-- a log for each machine before this place
abbrev pub invariant-loop-cell : goal.invariant-loop-cell
invariant-loop-cell g l = record {
  left : l.place + length l.cell-iterator.rest.items ≡ vec_len l.fn.cells;
  count : l.place ≡ length l.logs;
  alone : AreAlone g.N.Naming.net l.logs;
}
