use Rattle.std.proofs.Common.{◌≡◌, ◌-◌, arith, subst}
use Rattle.sgraph_opt.specs.inner.Representatives.{Dropping}
use Rattle.sgraph_opt.proofs.DroppedDefaults.{dropping_start, dropping_more}
use Rattle.sgraph_opt.proofs.dropping.past_defaults.Goals as goal

pub loop-k-init : goal.loop-k-init
loop-k-init c =
    dropping_start c.args.g.now c.in_ok-reps.reps c.len-k.result c.len.result c.in_ok-reps.ensures
    c.len.ensures.len c.len-k.ensures.len

pub loop-k-preserved : goal.loop-k-preserved
loop-k-preserved c =
    let some = c.loop-k-test.true in
    let high = c.loop-k.auto.k in
    let len = c.len-k.ensures.len in
    dropping_more c.args.g.now c.len.ensures.graph c.loop-k.reps c.set.new.self c.loop-k.k
    (c.loop-k.k - 1) c.past_default-r.result c.loop-k.invariant (omega arith) (omega arith)
    c.past_default-r.ensures c.set.ensures

pub returns : goal.returns
returns c =
    let stop = c.loop-k-test.false in
    let zero_k : c.loop-k.k ≡ 0 = omega arith in
    subst (Dropping c.args.g.now c.loop-k.reps) zero_k c.loop-k.invariant
