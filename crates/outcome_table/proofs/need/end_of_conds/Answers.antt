use Rattle.std.proofs.Common.{◌≡◌, ◌+◌, length, get_or, arith, ap, sym}
use Rattle.transition_table.specs.declared.row.Cond.{Cond}
use Rattle.outcome_table.proofs.Ends.{asks_next, asks_var, max_over, max_within}
use Rattle.outcome_table.proofs.need.end_of_conds.Goals as goal

pub loop-cond-preserved : goal.loop-cond-preserved
loop-cond-preserved c =
    let none = c.cond-item.result in
    let same : (get_or c.args.conds.now c.loop-cond.cond-index none).var ≡ none.var =
    ap (λ (x : Cond). x.var) (sym c.cond-item.is) in
    let end = c.loop-cond.end in
    let var = asks_var c.args.machine.now.vars c.args.conds.now c.loop-cond.cond-index none
    c.loop-cond-test.true c.requires in
    let from = c.from.ensures in
    let is = c.max-end.ensures in
    let over = max_over end (c.from.result + 1) in
    let inside = c.loop-cond.invariant.within in
    let most = max_within end (c.from.result + 1) (length c.args.machine.now.vars) inside
    (omega arith) in
    record {
      within = omega arith;
      settled = asks_next end c.max-end.result c.args.conds.now c.loop-cond.cond-index none
          c.loop-cond-test.true c.loop-cond.invariant.settled (omega arith) (omega arith);
    }
