use Rattle.net_names.specs.Tables.{has}
use Rattle.rule_judge.proofs.Repeats.{missing_more}
use Rattle.rule_judge.proofs.targets.missing_in.Goals as goal

pub loop-act-preserved : goal.loop-act-preserved
loop-act-preserved g c =
    missing_more g.T.Target.words c.args.acts.now c.loop-act.act-index c.act-item.result
    c.loop-act-test.true c.act-item.is (has c.args.declared.now) c.loop-act.found
    c.missing_one-found.result _ c.missing_one-found.ensures c.loop-act.invariant
