use Rattle.std.proofs.Common.{◌≡◌, ◌++◌, take}
use Rattle.std.specs.List.{flat_map}
use Rattle.wave_text.specs.Waves.{change_line}
use Rattle.wave_text.proofs.lines.push_change_lines.Given as goal

-- the lines of the changes before this one
abbrev pub invariant-loop-change : goal.invariant-loop-change
invariant-loop-change l =
    l.into ≡ l.fn.into ++ flat_map (change_line l.net) (take l.change-index l.changes)
