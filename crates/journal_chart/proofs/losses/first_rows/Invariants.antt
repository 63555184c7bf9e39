use Rattle.std.proofs.Common.{◌≡◌, [], map}
use Rattle.polis_base.specs.Lists.{upto}
use Rattle.journal_chart.specs.inner.Marks.{row_of}
use Rattle.journal_chart.proofs.losses.first_rows.Given as goal

-- those of the machines before this one
abbrev pub invariant-loop-m : goal.invariant-loop-m
invariant-loop-m l = l.rows ≡ map (row_of l.net []) (upto l.m)
