use Rattle.std.proofs.Common.{◌≡◌, ℕ, List, length, slice_get, Some}
use Rattle.transition_table.specs.declared.row.Row.{Row}
use Rattle.transition_table.specs.RowCodes.{AreSetsOf}
use Rattle.transition_table.proofs.row_codes.table_of.Given as goal

-- the rows before this one
abbrev pub invariant-loop-r : goal.invariant-loop-r
invariant-loop-r l = record {
  long : length l.table ≡ l.r;
  each : (k : ℕ) (row : Row) (sets : List ℕ) → slice_get l.machine.rows k ≡ Some row
      → slice_get l.table k ≡ Some sets → AreSetsOf l.machine.vars row sets;
}
