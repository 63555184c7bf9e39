use Rattle.std.specs.Prelude.{◌≡◌, flat_map}
use Rattle.polis_base.specs.Lists.{upto}
use Rattle.polis_base.specs.Draws.{after}
use Rattle.net_gen.specs.Traces.{lines_at}
use Rattle.net_gen.proofs.trace.ticks.Given as goal

abbrev pub invariant-loop-k : goal.invariant-loop-k
invariant-loop-k l = record {
  made : l.out ≡ flat_map (lines_at l.count l.initial.draws.x) (upto l.k);
  moved : l.draws.x ≡ after l.initial.draws.x l.k;
}
