use Rattle.std.proofs.Common.{◌≡◌, ◌++◌, flat_map}
use Rattle.std.specs.List.{enumerate_from}
use Rattle.table_use.specs.CoverageLines.{taken_line}
use Rattle.table_use.proofs.Written.{numbered_from}
use Rattle.table_use.proofs.coverage_lines.push_taken_rows.Given as goal

-- what is written, with the lines of the rows that are left, is the whole
abbrev pub invariant-loop-r : goal.invariant-loop-r
invariant-loop-r l =
    l.into ++ numbered_from (taken_line l.machine) l.r l.rows
    ≡ l.fn.into ++ flat_map (taken_line l.machine) (enumerate_from 0 l.rows)
