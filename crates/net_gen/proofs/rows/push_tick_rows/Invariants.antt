use Rattle.std.specs.Prelude.{◌≡◌, ◌*◌, ◌++◌, map}
use Rattle.polis_base.specs.Lists.{upto}
use Rattle.polis_base.specs.Draws.{after}
use Rattle.net_gen.specs.Networks.{tick_row_at}
use Rattle.net_gen.proofs.rows.push_tick_rows.Given as goal

abbrev pub invariant-loop-v : goal.invariant-loop-v
invariant-loop-v l = record {
  made : l.rows ≡ l.initial.rows ++ map (tick_row_at l.i l.j l.initial.draws.x) (upto l.v);
  moved : l.draws.x ≡ after l.initial.draws.x (2 * l.v);
}
