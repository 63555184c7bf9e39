use Rattle.std.specs.Prelude.{◌≡◌, flat_map}
use Rattle.polis_base.specs.Lists.{upto}
use Rattle.net_gen.specs.Networks.{events_of}
use Rattle.net_gen.proofs.network.events.Given as goal

abbrev pub invariant-loop-i : goal.invariant-loop-i
invariant-loop-i l = l.events ≡ flat_map events_of (upto l.i)
