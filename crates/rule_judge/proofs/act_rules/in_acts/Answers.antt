use Rattle.rule_judge.proofs.LeastPlace.{found_more}
use Rattle.rule_judge.proofs.act_rules.in_acts.Goals as goal

pub loop-act-preserved : goal.loop-act-preserved
loop-act-preserved g c =
    found_more (g.C.ActRule.places c.args.names.now.scope.now.raw.now c.args.names.now.machine.now
    c.args.row.now) c.args.acts.now c.loop-act.act-index c.act-item.result c.loop-act.found
    c.check-found.result _ c.loop-act-test.true c.act-item.is c.check-found.ensures
    c.loop-act.invariant
