use Rattle.outcome_table.specs.inner.RowSets.{AreBefore}
use Rattle.outcome_table.proofs.allowing.rows_with.Given as goal

-- the rows before this one
abbrev pub invariant-loop-r : goal.invariant-loop-r
invariant-loop-r l = AreBefore l.machine l.var l.code l.r l.set
