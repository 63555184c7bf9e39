use Rattle.rule_judge.proofs.Repeats.{repeats_more}
use Rattle.rule_judge.proofs.targets.repeated_in.Goals as goal

pub loop-place-preserved : goal.loop-place-preserved
loop-place-preserved g c =
    repeats_more g.T.Target.words c.args.acts.now c.loop-place.place c.index-acts-place.result
    c.loop-place-test.true c.index-acts-place.is c.loop-place.found c.repeated_one-found.result _
    c.repeated_one-found.ensures c.loop-place.invariant
