use Rattle.std.proofs.Common.{◌≡◌, length}
use Rattle.determinism.specs.inner.Pairs.{IsBest}
use Rattle.determinism.proofs.conflict.any_difference.Given as goal

-- the least codes for the results before this one
abbrev pub invariant-loop-y : goal.invariant-loop-y
invariant-loop-y l = record {
  long : length l.s.codes ≡ length l.pair.sets.now;
  best_long : length l.best.codes ≡ length l.pair.sets.now;
  best : IsBest l.pair l.y l.found l.best.codes;
}
