use Rattle.std.proofs.Common.{◌≡◌, length, map, take}
use Rattle.polis_base.specs.Lists.{upto}
use Rattle.journal_chart.specs.Columns.{has_column}
use Rattle.journal_chart.proofs.layout.flags_of.Given as goal

-- of the entries before this one
abbrev pub invariant-loop-entry : goal.invariant-loop-entry
invariant-loop-entry l =
    l.flags ≡ map (has_column (take l.entry-index l.entries)) (upto (length l.net.machines))
