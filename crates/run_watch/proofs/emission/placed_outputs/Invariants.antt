use Rattle.std.proofs.Common.{◌≡◌, ◌++◌, drop, flat_map}
use Rattle.std.specs.List.{enumerate_from}
use Rattle.run_watch.specs.Emissions.{placed_in, placed_outputs}
use Rattle.run_watch.proofs.emission.placed_outputs.Given as goal

-- those of the entries from this one on are left
abbrev pub invariant-loop-place : goal.invariant-loop-place
invariant-loop-place l =
    l.placed ++ flat_map (placed_in l.net) (enumerate_from l.place (drop l.place l.j))
    ≡ placed_outputs l.net l.j
