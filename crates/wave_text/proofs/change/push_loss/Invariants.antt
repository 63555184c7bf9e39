use Rattle.std.proofs.Common.{◌≡◌, ◌+◌, ◌++◌, drop}
use Rattle.wave_text.specs.inner.Changing.{loss_changes}
use Rattle.wave_text.proofs.change.push_loss.Given as goal

-- the inputs from this one on are left
abbrev pub invariant-loop-k : goal.invariant-loop-k
invariant-loop-k l =
    l.changes.items ++ loss_changes (l.first + l.k) (drop l.k l.inputs) l.event (drop l.k l.before)
    ≡ l.fn.changes.items ++ loss_changes l.first l.inputs l.event l.before
