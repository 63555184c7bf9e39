use Rattle.std.proofs.Common.{◌≡◌, ◌-◌, arith, subst}
use Rattle.sgraph_opt.specs.inner.Choices.{Sharing}
use Rattle.sgraph_opt.proofs.Shared.{sharing_start, sharing_more, sharing_shared}
use Rattle.sgraph_opt.proofs.sharing.all_shared.Goals as goal

pub loop-k-init : goal.loop-k-init
loop-k-init c =
    sharing_start c.args.drops c.args.g.now c.in_ok-reps.reps c.in_ok-index.index c.len-k.result c.len-2.result
    c.in_ok-reps.ensures c.len-2.ensures.len c.len-k.ensures.len
    c.in_ok-index.ensures

pub loop-k-preserved : goal.loop-k-preserved
loop-k-preserved c =
    let some = c.loop-k-test.true in
    let high = c.loop-k.auto.k in
    let len = c.len-k.ensures.len in
    sharing_more c.args.drops c.args.g.now c.len.ensures.graph c.loop-k.reps c.set.new.self c.loop-k.index
    c.shared.new.index c.loop-k.k (c.loop-k.k - 1) c.in_ok-r.r c.loop-k.invariant (omega arith)
    (omega arith) c.in_ok-r.ensures c.set.ensures

pub returns-clause-shared : goal.returns-clause-shared
returns-clause-shared c =
    let stop = c.loop-k-test.false in
    let zero_k : c.loop-k.k ≡ 0 = omega arith in
    sharing_shared c.args.drops c.args.g.now c.loop-k.reps c.loop-k.index c.len.ensures.graph
    (subst (Sharing c.args.drops c.args.g.now c.loop-k.reps c.loop-k.index) zero_k c.loop-k.invariant)
