use Rattle.std.proofs.Common.{◌≡◌, ◌∙◌, arith, subst, ℕ, sym}
use Rattle.task_machine.specs.inner.Running.{MayRun}
use Rattle.sgraph.specs.Walks.{width_of}
use Rattle.task_machine.proofs.ExecSteps.{runnable, doing_start, doing_on, doing_ends, as_exec}
use Rattle.task_machine.proofs.running.run.Goals as goal

pub loop-next-init : goal.loop-next-init
loop-next-init c =
    doing_start c.args.code.now c.args.s.now.codes c.args.o.now c.make_blank.new.o
    (runnable c.args.code.now c.args.s.now c.args.o.now c.len-count.ensures.code c.requires)
    c.make_blank.ensures.next c.make_blank.ensures.outs c.make_blank.ensures.blank

pub get-requires : goal.get-requires
get-requires c = c.loop-next.invariant.going.low

pub step-requires : goal.step-requires
step-requires c =
    let next = c.loop-next.invariant.next in
    let outs = c.loop-next.invariant.outs in
    let same : width_of c.loop-next.o ≡ width_of c.args.o.now = omega arith in
    let may = (runnable c.args.code.now c.args.s.now c.args.o.now c.len-count.ensures.code
    c.requires).each c.loop-next.at c.get.result.now c.get.ensures in
    subst (λ (n : ℕ). MayRun c.len-count.result c.args.s.now.codes n c.loop-next.at
    c.get.result.now) (sym same)
    (subst (λ (n : ℕ). MayRun n c.args.s.now.codes (width_of c.args.o.now) c.loop-next.at
    c.get.result.now) (sym c.len-count.ensures.len) may)

pub overflow_add-steps : goal.overflow_add-steps
overflow_add-steps c =
    let few = c.loop-next.invariant.going.few in
    let low = c.loop-next.invariant.going.low in
    let len = c.len-count.ensures.len in
    let small = c.len-count.ensures.small in
    omega arith

pub loop-next-smaller : goal.loop-next-smaller
loop-next-smaller c =
    let on = doing_on c.args.code.now c.args.s.now.codes c.args.o.now c.loop-next.o c.step.new.o
    c.loop-next.at c.loop-next.steps c.in-Some.next c.get.result.now
    (runnable c.args.code.now c.args.s.now c.args.o.now c.len-count.ensures.code c.requires)
    c.loop-next.invariant c.get.ensures c.in-Some.ensures.leads c.in-Some.ensures.next
    c.in-Some.ensures.outs c.in-Some.ensures.set in
    let low = on.0.going.low in
    let further = on.1 in
    omega arith

pub loop-next-preserved : goal.loop-next-preserved
loop-next-preserved c =
    let on = doing_on c.args.code.now c.args.s.now.codes c.args.o.now c.loop-next.o c.step.new.o
    c.loop-next.at c.loop-next.steps c.in-Some.next c.get.result.now
    (runnable c.args.code.now c.args.s.now c.args.o.now c.len-count.ensures.code c.requires)
    c.loop-next.invariant c.get.ensures c.in-Some.ensures.leads c.in-Some.ensures.next
    c.in-Some.ensures.outs c.in-Some.ensures.set in
    on.0

pub returns-clause-outcome : goal.returns-clause-outcome
returns-clause-outcome c = λ m widths.
    let ends = doing_ends c.args.code.now c.args.s.now.codes c.args.o.now c.loop-next.o c.step.new.o
    c.loop-next.at c.loop-next.steps c.get.result.now
    (runnable c.args.code.now c.args.s.now c.args.o.now c.len-count.ensures.code c.requires)
    c.loop-next.invariant c.get.ensures c.in_default.ensures.leads c.in_default.ensures.set in
    ends.0 ∙ as_exec m c.args.code.now c.args.s.now.codes c.args.o.now widths

pub returns-clause-widths : goal.returns-clause-widths
returns-clause-widths c = λ m widths. record {
  next = c.in_default.ensures.next ∙ c.loop-next.invariant.next ∙ widths.next;
  outs = c.in_default.ensures.outs ∙ c.loop-next.invariant.outs ∙ widths.outs;
}

pub returns-clause-steps : goal.returns-clause-steps
returns-clause-steps c =
    let ends = doing_ends c.args.code.now c.args.s.now.codes c.args.o.now c.loop-next.o c.step.new.o
    c.loop-next.at c.loop-next.steps c.get.result.now
    (runnable c.args.code.now c.args.s.now c.args.o.now c.len-count.ensures.code c.requires)
    c.loop-next.invariant c.get.ensures c.in_default.ensures.leads c.in_default.ensures.set in
    ends.1

pub returns-clause-few : goal.returns-clause-few
returns-clause-few c =
    let few = c.loop-next.invariant.going.few in
    let low = c.loop-next.invariant.going.low in
    omega (arith, few, low)
