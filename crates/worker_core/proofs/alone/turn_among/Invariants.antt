use Rattle.std.proofs.Common.{◌≡◌, ◌≤◌, ◌<◌, ℕ}
use Rattle.worker_core.specs.inner.Turns.{IsStill}
use Rattle.worker_core.proofs.alone.turn_among.Given as goal

abbrev pub invariant-loop-m : goal.invariant-loop-m
invariant-loop-m g l = record {
  same : l.core ≡ l.fn.core;
  still : (k : ℕ) → l.fn.from ≤ k → k < l.m → IsStill l.fn.core.net l.fn.core.state k;
}
