use Rattle.std.proofs.Common.{◌≡◌, vec_len}
use Rattle.worker_run.proofs.logs.cells_of.Given as goal

-- a cell for each machine before this one
abbrev pub invariant-loop-m : goal.invariant-loop-m
invariant-loop-m g l = l.m ≡ vec_len l.cells
