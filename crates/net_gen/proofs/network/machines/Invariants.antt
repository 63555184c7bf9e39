use Rattle.std.specs.Prelude.{◌≡◌, ◌*◌, map}
use Rattle.polis_base.specs.Lists.{upto}
use Rattle.polis_base.specs.Draws.{after}
use Rattle.net_gen.specs.Networks.{machine_at}
use Rattle.net_gen.proofs.network.machines.Given as goal

abbrev pub invariant-loop-i : goal.invariant-loop-i
invariant-loop-i l = record {
  made : l.machines ≡ map (machine_at l.count l.initial.draws.x) (upto l.i);
  moved : l.draws.x ≡ after l.initial.draws.x (25 * l.i);
}
