use Rattle.std.proofs.Common.{◌≡◌, ◌+◌, length}
use Rattle.scheduler_gen.specs.inner.Runs.{GoesOn}
use Rattle.scheduler_gen.proofs.run.run.Given as goal

-- so many entries are taken
abbrev pub invariant-loop : goal.invariant-loop
invariant-loop g l = record {
  goes_on : GoesOn l.fn.config l.config l.counter;
  longer : length l.config.journal ≡ length l.fn.config.journal + l.counter;
}
