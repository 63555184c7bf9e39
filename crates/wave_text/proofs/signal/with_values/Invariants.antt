use Rattle.std.proofs.Common.{◌≡◌, take}
use Rattle.std.specs.Prelude.{filter}
use Rattle.wave_text.specs.Signals.{has_values}
use Rattle.wave_text.proofs.signal.with_values.Given as goal

-- those before this one
abbrev pub invariant-loop-e : goal.invariant-loop-e
invariant-loop-e l = l.valued ≡ filter (has_values l.net) (take l.e-index l.events)
