use Rattle.std.proofs.Common.{◌≡◌, ◌<◌, ◌≤◌, true, ℕ, length, slice_get, slice_index, Some}
use Rattle.transition_table.specs.declared.row.Row.{Row}
use Rattle.outcome_table.specs.inner.Needs.{is_settled}
use Rattle.outcome_table.proofs.need.ends_of.Given as goal

-- those of the rows before this one
abbrev pub invariant-loop-r : goal.invariant-loop-r
invariant-loop-r l = record {
  long : length l.ends ≡ l.r;
  each : (k : ℕ) (row : Row) → k < l.r → slice_get l.machine.rows k ≡ Some row
      → (slice_index l.ends k ≤ length l.machine.vars)
      × (is_settled l.machine.inputs (slice_index l.ends k) row ≡ true);
}
