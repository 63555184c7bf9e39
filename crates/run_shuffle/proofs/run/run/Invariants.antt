use Rattle.std.proofs.Common.{◌≡◌, [], length}
use Rattle.run_shuffle.specs.Shuffles.{IsDrawn}
use Rattle.polis_base.specs.Draws.{after}
use Rattle.run_shuffle.specs.inner.Ways.{AreWays}
use Rattle.run_shuffle.proofs.run.run.Given as goal

-- so many entries are drawn
abbrev pub invariant-loop : goal.invariant-loop
invariant-loop g l = record {
  net : l.config.net ≡ l.fn.config.net;
  trace : l.config.trace ≡ l.fn.config.trace;
  drawn : IsDrawn l.fn.config.net l.fn.config.trace l.rule.order l.rule.pace l.fn.draws.x []
      l.config.journal;
  x : l.draws.x ≡ after l.fn.draws.x l.counter;
  size : length l.config.journal ≡ l.counter;
  ways : AreWays l.config l.ways;
}
