use Rattle.std.proofs.Common.{◌≡◌, ◌+◌, ◌++◌, drop}
use Rattle.wave_text.specs.inner.Changing.{out_signals}
use Rattle.wave_text.proofs.change.out_signals_of.Given as goal

-- the events from this one on are left
abbrev pub invariant-loop-k : goal.invariant-loop-k
invariant-loop-k l =
    l.list ++ out_signals l.machine.outputs (l.first + l.k) (drop l.k l.events)
    ≡ out_signals l.machine.outputs l.first l.events
