use Rattle.std.proofs.Common.{◌≡◌, ◌<◌, ℕ, [], length, get_or}
use Rattle.outcome_table.specs.inner.RowSets.{AreSets}
use Rattle.outcome_table.proofs.allowing.allowed_table.Given as goal

-- the variables before this one
abbrev pub invariant-loop-var : goal.invariant-loop-var
invariant-loop-var l = record {
  long : length l.table ≡ l.var;
  each : (k : ℕ) → k < l.var → AreSets l.machine k (get_or l.table k []);
}
