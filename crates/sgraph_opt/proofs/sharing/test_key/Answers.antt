use Rattle.sgraph_opt.proofs.Keys.{key_more}
use Rattle.sgraph_opt.proofs.sharing.test_key.Goals as goal

pub loop-i-preserved : goal.loop-i-preserved
loop-i-preserved c =
    key_more c.args.reps.now c.args.kids.now c.loop-i.key.items c.push-in-loop-i.new.self.items
    c.args.var c.loop-i.i c.get.result.now c.get-number.result.now c.loop-i.invariant c.get.ensures
    c.get-number.ensures c.in_ok-push-3.ensures.items
