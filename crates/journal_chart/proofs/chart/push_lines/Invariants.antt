use Rattle.std.proofs.Common.{◌≡◌, ◌+◌, ◌++◌, drop}
use Rattle.polis_base.specs.Lists.{numbered}
use Rattle.journal_chart.specs.Chart.{chart_line}
use Rattle.journal_chart.proofs.chart.push_lines.Given as goal

-- with the lines from this one on all is written
abbrev pub invariant-loop-k : goal.invariant-loop-k
invariant-loop-k l =
    l.into ++ numbered (chart_line l.net l.j l.entries) (l.from + l.k) (drop l.k l.entries)
    ≡ l.fn.into ++ numbered (chart_line l.net l.j l.entries) l.from l.entries
