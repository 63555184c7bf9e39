use Rattle.std.proofs.Common.{◌≡◌, ◌++◌}
use Rattle.polis_base.specs.Lists.{places_where}
use Rattle.table_use.specs.CoverageLines.{is_untaken, number_text, numbers_text}
use Rattle.table_use.proofs.Written.{passing_from}
use Rattle.table_use.proofs.coverage_lines.push_untaken_rows.Given as goal

-- what is written, with the numbers of the rows that are left, is the whole
abbrev pub invariant-loop-r : goal.invariant-loop-r
invariant-loop-r l =
    l.into ++ passing_from number_text is_untaken l.r l.rows
    ≡ l.fn.into ++ numbers_text (places_where is_untaken l.rows)
