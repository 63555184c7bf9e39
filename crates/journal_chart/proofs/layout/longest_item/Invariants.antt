use Rattle.std.proofs.Common.{◌≡◌, ◌<◌, ◌^◌, filter_map, take}
use Rattle.journal_chart.specs.Columns.{greatest, item_of}
use Rattle.journal_chart.proofs.layout.longest_item.Given as goal

-- of the entries before this one
abbrev pub invariant-loop-entry : goal.invariant-loop-entry
invariant-loop-entry l =
    (l.longest ≡ greatest (filter_map (item_of l.net) (take l.entry-index l.entries)))
    × (l.longest < 2 ^ 63)
