use Rattle.rule_judge.proofs.LeastPlace.{found_more}
use Rattle.rule_judge.proofs.checks.check_each.Goals as goal

pub loop-item-preserved : goal.loop-item-preserved
loop-item-preserved g c =
    found_more (g.C.Check.places c.args.check.now) c.args.items.now c.loop-item.item-index
    c.item-item.result c.loop-item.found c.in_ok-found.found _ c.loop-item-test.true c.item-item.is
    c.in_ok-found.ensures c.loop-item.invariant
