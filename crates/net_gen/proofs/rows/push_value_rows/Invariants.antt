use Rattle.std.specs.Prelude.{◌≡◌, ◌++◌, map}
use Rattle.polis_base.specs.Lists.{upto}
use Rattle.polis_base.specs.Draws.{after}
use Rattle.net_gen.specs.Networks.{value_row_at}
use Rattle.net_gen.proofs.rows.push_value_rows.Given as goal

abbrev pub invariant-loop-k : goal.invariant-loop-k
invariant-loop-k l = record {
  made : l.rows ≡ l.initial.rows ++ map (value_row_at l.i l.j l.initial.draws.x) (upto l.k);
  moved : l.draws.x ≡ after l.initial.draws.x l.k;
}
