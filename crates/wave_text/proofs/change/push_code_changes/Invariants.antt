use Rattle.std.proofs.Common.{◌≡◌, ◌+◌, ◌++◌, drop}
use Rattle.wave_text.specs.inner.Changing.{code_changes}
use Rattle.wave_text.proofs.change.push_code_changes.Given as goal

-- the codes from this one on are left
abbrev pub invariant-loop-k : goal.invariant-loop-k
invariant-loop-k l =
    l.changes.items ++ code_changes (l.first + l.k) (drop l.k l.before) (drop l.k l.after)
    ≡ l.fn.changes.items ++ code_changes l.first l.before l.after
