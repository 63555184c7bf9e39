use Rattle.std.proofs.Common.{◌≡◌, ◌<◌, ℕ, [], length, get_or}
use Rattle.domains.specs.AllCodes.{all_codes}
use Rattle.outcome_table.specs.Outcomes.{column}
use Rattle.outcome_table.proofs.column.columns_of.Given as goal

-- the columns of the variables before this one
abbrev pub invariant-loop-v : goal.invariant-loop-v
invariant-loop-v l = record {
  wide : length l.columns ≡ l.v;
  each : (k : ℕ) → k < l.v → get_or l.columns k [] ≡ column k (all_codes l.vars);
}
