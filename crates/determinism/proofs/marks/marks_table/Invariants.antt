use Rattle.std.proofs.Common.{◌≡◌, ℕ, length, slice_get, Some}
use Rattle.transition_table.specs.declared.row.Row.{Row}
use Rattle.determinism.specs.declared.marks.Marks.{Marks}
use Rattle.determinism.specs.inner.Marks.{IsMarked}
use Rattle.determinism.proofs.marks.marks_table.Given as goal

-- the rows before this one
abbrev pub invariant-loop-r : goal.invariant-loop-r
invariant-loop-r l = record {
  long : length l.made ≡ l.r;
  each : (k : ℕ) (row : Row) (marks : Marks) → slice_get l.machine.rows k ≡ Some row
      → slice_get l.made k ≡ Some marks → IsMarked l.machine row marks;
}
