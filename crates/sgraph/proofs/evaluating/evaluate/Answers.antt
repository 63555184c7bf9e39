use Rattle.std.proofs.Common.{◌≡◌, arith, subst, ℕ, sym}
use Rattle.sgraph.specs.Walks.{width_of}
use Rattle.sgraph.specs.inner.Walks.{MayWalk}
use Rattle.sgraph.proofs.EvalSteps.{may_walk, doing_start, doing_on, doing_ends}
use Rattle.sgraph.proofs.evaluating.evaluate.Goals as goal

pub loop-next-init : goal.loop-next-init
loop-next-init c =
    doing_start c.args.g.now c.args.s.now c.args.o.now c.len-count.ensures.graph c.requires

pub get-requires : goal.get-requires
get-requires c = c.loop-next.invariant.low

pub step-requires : goal.step-requires
step-requires c =
    let next = c.loop-next.invariant.next in
    let outs = c.loop-next.invariant.outs in
    let same : width_of c.loop-next.o ≡ width_of c.args.o.now = omega arith in
    let may = may_walk c.args.g.now c.args.s.now c.args.o.now c.len-count.ensures.graph c.requires
    c.loop-next.at c.get.result.now c.get.ensures in
    subst (λ (n : ℕ). MayWalk c.len-count.result c.args.s.now.codes n c.loop-next.at
    c.get.result.now) (sym same)
    (subst (λ (n : ℕ). MayWalk n c.args.s.now.codes (width_of c.args.o.now) c.loop-next.at
    c.get.result.now) (sym c.len-count.ensures.len) may)

pub loop-next-smaller : goal.loop-next-smaller
loop-next-smaller c =
    let on = doing_on c.args.g.now c.args.s.now.codes c.args.o.now c.loop-next.o c.step.new.o
    c.loop-next.at c.in-Some.next c.get.result.now
    (may_walk c.args.g.now c.args.s.now c.args.o.now c.len-count.ensures.graph c.requires
    c.loop-next.at c.get.result.now c.get.ensures) c.loop-next.invariant c.get.ensures
    c.in-Some.ensures.leads c.in-Some.ensures.next c.in-Some.ensures.outs
    c.in-Some.ensures.set in
    let low = on.0.low in
    let further = on.1 in
    omega arith

pub loop-next-preserved : goal.loop-next-preserved
loop-next-preserved c =
    let on = doing_on c.args.g.now c.args.s.now.codes c.args.o.now c.loop-next.o c.step.new.o
    c.loop-next.at c.in-Some.next c.get.result.now
    (may_walk c.args.g.now c.args.s.now c.args.o.now c.len-count.ensures.graph c.requires
    c.loop-next.at c.get.result.now c.get.ensures) c.loop-next.invariant c.get.ensures
    c.in-Some.ensures.leads c.in-Some.ensures.next c.in-Some.ensures.outs
    c.in-Some.ensures.set in
    on.0

pub returns : goal.returns
returns c = λ m widths. doing_ends m c.args.g.now c.args.s.now.codes c.args.o.now c.loop-next.o
    c.step.new.o c.loop-next.at c.get.result.now widths c.loop-next.invariant c.get.ensures
    c.in_default.ensures.leads c.in_default.ensures.set
