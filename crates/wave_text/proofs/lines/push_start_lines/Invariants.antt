use Rattle.std.proofs.Common.{◌≡◌, ◌++◌, drop}
use Rattle.std.specs.List.{enumerate_from, flat_map}
use Rattle.wave_text.specs.Waves.{start_line}
use Rattle.wave_text.proofs.lines.push_start_lines.Given as goal

-- the lines from this one on are left
abbrev pub invariant-loop-k : goal.invariant-loop-k
invariant-loop-k l =
    l.into ++ flat_map (start_line l.net) (enumerate_from l.k (drop l.k l.list))
    ≡ l.fn.into ++ flat_map (start_line l.net) (enumerate_from 0 l.list)
