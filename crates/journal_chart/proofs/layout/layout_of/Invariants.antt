use Rattle.std.proofs.Common.{◌≡◌, ◌+◌, filter, length, replicate, codes}
use Rattle.polis_base.specs.Lists.{upto}
use Rattle.journal_chart.specs.Columns.{has_column}
use Rattle.journal_chart.specs.Pictures.{cells}
use Rattle.journal_chart.specs.inner.Layouts.{machine_axes}
use Rattle.journal_chart.proofs.layout.layout_of.Given as goal

-- of the machines before this one
abbrev pub invariant-loop-m : goal.invariant-loop-m
invariant-loop-m l =
    (l.places ≡ machine_axes l.net l.entries l.m)
    × (l.bare ≡ cells l.width
    (replicate (1 + length (filter (has_column l.entries) (upto l.m))) (codes "|")))
