use Rattle.std.proofs.Common.{◌≡◌, ◌++◌, ◌∷◌, map, take, codes}
use Rattle.transition_table.specs.NetworkNames.{machine_name}
use Rattle.journal_chart.specs.Pictures.{cells}
use Rattle.journal_chart.proofs.layout.push_names.Given as goal

-- the names before this one are written
abbrev pub invariant-loop-k : goal.invariant-loop-k
invariant-loop-k l =
    l.into ≡ l.fn.into ++ cells l.width (codes "env" ∷ map (machine_name l.net) (take l.k l.machines))
