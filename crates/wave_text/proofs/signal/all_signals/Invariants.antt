use Rattle.std.proofs.Common.{◌≡◌}
use Rattle.std.specs.List.{flat_map}
use Rattle.polis_base.specs.Lists.{upto}
use Rattle.wave_text.specs.Signals.{machine_signals}
use Rattle.wave_text.proofs.signal.all_signals.Given as goal

-- those of the machines before this one
abbrev pub invariant-loop-m : goal.invariant-loop-m
invariant-loop-m l = l.list ≡ flat_map (machine_signals l.net) (upto l.m)
