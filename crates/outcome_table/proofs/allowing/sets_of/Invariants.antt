use Rattle.std.proofs.Common.{◌≡◌, ◌<◌, ℕ, [], length, get_or}
use Rattle.outcome_table.specs.inner.RowSets.{IsSetOf}
use Rattle.outcome_table.proofs.allowing.sets_of.Given as goal

-- the codes before this one
abbrev pub invariant-loop-code : goal.invariant-loop-code
invariant-loop-code l = record {
  long : length l.sets ≡ l.code;
  each : (k : ℕ) → k < l.code → IsSetOf l.machine l.var k (get_or l.sets k []);
}
