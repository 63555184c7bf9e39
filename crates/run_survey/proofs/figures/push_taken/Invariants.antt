use Rattle.std.proofs.Common.{◌≡◌, ◌++◌, map, take}
use Rattle.table_use.specs.declared.tally.Tally.{Tally}
use Rattle.run_survey.proofs.figures.push_taken.Given as goal

-- those of the rows before this one
abbrev pub invariant-loop-row : goal.invariant-loop-row
invariant-loop-row l =
    l.into ≡ l.fn.into ++ map (λ (row : Tally). row.count) (take l.row-index l.used.rows)
