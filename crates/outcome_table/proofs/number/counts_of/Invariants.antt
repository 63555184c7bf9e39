use Rattle.std.proofs.Common.{◌≡◌, ◌<◌, ℕ, length, drop, slice_index}
use Rattle.domains.specs.Tables.{product}
use Rattle.outcome_table.proofs.number.counts_of.Given as goal

-- the counts before this one
abbrev pub invariant-loop-v : goal.invariant-loop-v
invariant-loop-v l = record {
  long : length l.counts ≡ l.v;
  each : (k : ℕ) → k < l.v → slice_index l.counts k ≡ product (drop k l.m.vars);
}
