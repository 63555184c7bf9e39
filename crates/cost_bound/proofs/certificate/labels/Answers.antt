use Rattle.std.proofs.Common.{◌≡◌, ◌+◌, ◌-◌, ℕ, arith, subst, sym}
use Rattle.cost_bound.proofs.CoversBound.{needed_least, needed_taken}
use Rattle.cost_bound.proofs.LabelSteps.{Labelled, labelled_more, labelled_whole}
use Rattle.cost_bound.proofs.TailCosts.{may_go_on}
use Rattle.cost_bound.proofs.certificate.labels.Goals as goal
use Rattle.cost_bound.specs.inner.Scores.{MayGoOn}

pub needed-label-requires-clause-goes_on : goal.needed-label-requires-clause-goes_on
needed-label-requires-clause-goes_on c =
    subst (λ (n : ℕ). MayGoOn n (c.loop-at.at - 1) c.get.result.now)
    (sym c.loop-at.invariant.long)
    (may_go_on c.args.code.now (c.loop-at.at - 1) c.get.result.now c.len-count.ensures.code
    c.get.ensures)

pub loop-at-preserved : goal.loop-at-preserved
loop-at-preserved c =
    let some = c.loop-at-test.true in
    let one : c.loop-at.at ≡ c.loop-at.at - 1 + 1 = omega arith in
    labelled_more c.args.costs.now c.args.code.now c.loop-at.labels c.set.new.self
    (c.loop-at.at - 1) c.needed-label.result c.get.result.now c.len-count.ensures.code
    c.get.ensures
    (subst (λ (n : ℕ). Labelled c.args.costs.now c.args.code.now c.loop-at.labels n) one
    c.loop-at.invariant)
    c.needed-label.ensures c.set.ensures

pub returns-clause-exact : goal.returns-clause-exact
returns-clause-exact c = λ m fit once.
    needed_taken c.args.costs.now c.args.code.now c.loop-at.labels c.len-count.ensures.code
    c.loop-at.invariant.long
    (labelled_whole c.args.costs.now c.args.code.now c.loop-at.labels c.loop-at.at
    c.loop-at.invariant c.loop-at-test.false)
    m fit once

pub returns-clause-covers : goal.returns-clause-covers
returns-clause-covers c =
    needed_least c.args.costs.now c.args.code.now c.loop-at.labels c.len-count.ensures.code
    c.loop-at.invariant.long
    (labelled_whole c.args.costs.now c.args.code.now c.loop-at.labels c.loop-at.at
    c.loop-at.invariant c.loop-at-test.false)
