use Rattle.std.proofs.Common.{length, arith}
use Rattle.outcome_table.proofs.Ends.{max_over, max_within, takes_next}
use Rattle.outcome_table.proofs.need.end_of_acts.Goals as goal

pub loop-act-preserved : goal.loop-act-preserved
loop-act-preserved c =
    let end = c.loop-act.end in
    let own = c.end_of_act.result in
    let is = c.max-end.ensures in
    let over = max_over end own in
    let inside = c.loop-act.invariant.within in
    let within = c.end_of_act.ensures.within in
    let most = max_within end own (length c.args.machine.now.vars) inside within in
    record {
      within = omega arith;
      settled = takes_next c.args.machine.now.inputs end own c.max-end.result c.args.acts.now
          c.loop-act.act-index _ c.loop-act-test.true c.loop-act.invariant.settled (omega arith)
          (omega arith) c.end_of_act.ensures.settled;
    }
