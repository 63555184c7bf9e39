use Rattle.std.proofs.Common.{◌≡◌, false}
use Rattle.std.specs.List.{list_any}
use Rattle.polis_base.specs.Lists.{upto}
use Rattle.table_use.specs.Use.{fires_alone}
use Rattle.journal_chart.proofs.uses.is_jammed.Given as goal

-- on none before this one alone a row is enabled
abbrev pub invariant-loop-i : goal.invariant-loop-i
invariant-loop-i l = list_any (fires_alone l.machine l.s.codes) (upto l.i) ≡ false
