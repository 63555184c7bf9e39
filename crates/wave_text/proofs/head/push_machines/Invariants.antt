use Rattle.std.proofs.Common.{◌≡◌, ◌++◌}
use Rattle.std.specs.List.{flat_map}
use Rattle.polis_base.specs.Lists.{upto}
use Rattle.wave_text.specs.Signals.{first_number}
use Rattle.wave_text.specs.Waves.{machine_scope}
use Rattle.wave_text.proofs.head.push_machines.Given as goal

-- the scopes of the machines before this one, and the number of its first signal
abbrev pub invariant-loop-m : goal.invariant-loop-m
invariant-loop-m l = record {
  number : l.n ≡ first_number l.net l.m;
  scopes : l.into ≡ l.fn.into ++ flat_map (machine_scope l.net) (upto l.m);
}
