use Rattle.sgraph_opt.proofs.Keys.{one_more_same, differing}
use Rattle.sgraph_opt.proofs.sharing.one_kid.Goals as goal

pub loop-i-preserved : goal.loop-i-preserved
loop-i-preserved c =
    one_more_same c.args.reps.now c.args.kids.now c.loop-i.i c.get-in-loop-i.result.now
    c.get-rep.result.now c.get-first.result.now c.loop-i.invariant c.get-in-loop-i.ensures
    c.get-rep.ensures c.if-rep-first.false

pub returns-then-rep-first-clause-none : goal.returns-then-rep-first-clause-none
returns-then-rep-first-clause-none c =
    differing c.args.reps.now c.args.kids.now c.loop-i.i c.get-in-loop-i.result.now
    c.get-rep.result.now c.get.result.now c.get-first.result.now c.get.ensures c.get-first.ensures
    c.get-in-loop-i.ensures c.get-rep.ensures c.if-rep-first.true
