use Rattle.std.proofs.Common.{◌≡◌, ◌<◌, ◌^◌, ◌∷◌, map, take, codes}
use Rattle.transition_table.specs.NetworkNames.{machine_name}
use Rattle.journal_chart.specs.Columns.{greatest}
use Rattle.journal_chart.proofs.layout.longest_name.Given as goal

-- of the names before this one
abbrev pub invariant-loop-k : goal.invariant-loop-k
invariant-loop-k l =
    (l.longest ≡ greatest (codes "env" ∷ map (machine_name l.net) (take l.k l.machines)))
    × (l.longest < 2 ^ 63)
