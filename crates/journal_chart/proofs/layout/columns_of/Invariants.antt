use Rattle.std.proofs.Common.{◌≡◌, filter}
use Rattle.polis_base.specs.Lists.{upto}
use Rattle.journal_chart.specs.Columns.{has_column}
use Rattle.journal_chart.proofs.layout.columns_of.Given as goal

-- those before this one
abbrev pub invariant-loop-m : goal.invariant-loop-m
invariant-loop-m l = l.machines ≡ filter (has_column l.entries) (upto l.m)
