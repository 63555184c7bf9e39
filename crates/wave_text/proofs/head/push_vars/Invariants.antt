use Rattle.std.proofs.Common.{◌≡◌, ◌+◌, ◌++◌, drop}
use Rattle.wave_text.specs.Waves.{var_lines}
use Rattle.wave_text.proofs.head.push_vars.Given as goal

-- the lines from this one on are left
abbrev pub invariant-loop-i : goal.invariant-loop-i
invariant-loop-i l =
    l.into ++ var_lines l.net (l.n + l.i) (drop l.i l.list)
    ≡ l.fn.into ++ var_lines l.net l.n l.list
