use Rattle.std.proofs.Common.{◌≡◌, ◌+◌, ◌-◌, ◌*◌, ◌<◌, ◌∙◌, ℕ, arith, length, slice_index, subst, sym}
use Rattle.std.proofs.lemmas.Option.{get_or_from_slice_get}
use Rattle.cost_bound.proofs.Weights.{Weighed, weighed_more}
use Rattle.cost_bound.proofs.numbering.weights.Goals as goal
use Rattle.domains.proofs.FittingCodes.{product_after}

-- the invariant after the step
after : (c : goal.After-from-weight)
    → Weighed c.args.vars.now c.set.new.self (c.loop-v.weight * c.from-weight.result)
    (c.loop-v.v - 1)
after c =
    let some = c.loop-v-test.true in
    let high = c.loop-v.auto.v in
    let len = c.len-v.ensures.len in
    let low : c.loop-v.v - 1 < length c.args.vars.now = omega arith in
    let one : c.loop-v.v ≡ c.loop-v.v - 1 + 1 = omega arith in
    let size : slice_index c.args.vars.now (c.loop-v.v - 1) ≡ c.from-weight.result =
    get_or_from_slice_get c.args.vars.now (c.loop-v.v - 1) c.get.result.now 0 c.get.ensures
    ∙ sym c.from-weight.ensures in
    subst (λ (n : ℕ). Weighed c.args.vars.now c.set.new.self (c.loop-v.weight * n)
    (c.loop-v.v - 1)) size
    (weighed_more c.args.vars.now c.loop-v.weights c.set.new.self c.loop-v.weight
    (c.loop-v.v - 1) low
    (subst (λ (n : ℕ). Weighed c.args.vars.now c.loop-v.weights c.loop-v.weight n) one
    c.loop-v.invariant)
    c.set.ensures)

pub overflow_mul-weight : goal.overflow_mul-weight
overflow_mul-weight c =
    let made = after c in
    omega (
      arith,
      made.weight_is,
      product_after c.args.vars.now (c.loop-v.v - 1) c.len.ensures.sizes,
      c.requires,
    )

pub loop-v-preserved : goal.loop-v-preserved
loop-v-preserved c = after c
