use Rattle.std.proofs.Common.{◌≡◌, ◌++◌, flat_map}
use Rattle.std.specs.List.{enumerate_from}
use Rattle.table_use.specs.LintLines.{repeats_of}
use Rattle.table_use.proofs.Written.{numbered_from}
use Rattle.table_use.proofs.lint_lines.push_repeating_rows.Given as goal

-- what is written, with the lines of the rows that are left, is the whole
abbrev pub invariant-loop-r : goal.invariant-loop-r
invariant-loop-r l =
    l.into ++ numbered_from (repeats_of l.machine) l.r l.rows
    ≡ l.fn.into ++ flat_map (repeats_of l.machine) (enumerate_from 0 l.rows)
