use Rattle.std.proofs.Common.{◌≡◌, ◌+◌, ◌%◌, ◌<◌, ◌∙◌, ℕ, List, ap, arith, length, drop, slice_get, slice_index, Some, subst, sym}
use Rattle.std.proofs.lemmas.Option.{get_or_from_slice_get}
use Rattle.domains.specs.Tables.{product}
use Rattle.domains.proofs.Ranks.{size_few}
use Rattle.cost_bound.specs.inner.Scores.{weights_of}
use Rattle.cost_bound.proofs.Weights.{Numbered, long_weights, weight_at, numbered_more, numbered_ends}
use Rattle.cost_bound.proofs.numbering.codes_at.Goals as goal

weight : (vars weights : List ℕ) (v w : ℕ) → weights ≡ weights_of vars → v < length vars
    → slice_get weights v ≡ Some w → w ≡ product (drop (v + 1) vars)
weight vars weights v w e low is =
    sym (get_or_from_slice_get weights v w 0 is) ∙ ap (λ (ws : List ℕ). slice_index ws v) e
    ∙ weight_at vars v low

pub get-weight-requires : goal.get-weight-requires
get-weight-requires c =
    let within = c.loop-v-test.true in
    let len = c.len-v-end.ensures.len in
    let long = ap (λ (ws : List ℕ). length ws) c.requires.weights in
    omega (arith, long_weights c.args.vars.now)

pub nonzero_div-left : goal.nonzero_div-left
nonzero_div-left c =
    let within = c.loop-v-test.true in
    let len = c.len-v-end.ensures.len in
    let low : c.loop-v.v < length c.args.vars.now = omega arith in
    (numbered_more c.args.vars.now c.args.number c.loop-v.codes c.loop-v.left c.loop-v.v
    c.get-weight.result.now low
    (weight c.args.vars.now c.args.weights.now c.loop-v.v c.get-weight.result.now
    c.requires.weights low c.get-weight.ensures) c.loop-v.invariant).0

pub overflow_cast-left : goal.overflow_cast-left
overflow_cast-left c =
    let within = c.loop-v-test.true in
    let len = c.len-v-end.ensures.len in
    let low : c.loop-v.v < length c.args.vars.now = omega arith in
    let more = numbered_more c.args.vars.now c.args.number c.loop-v.codes c.loop-v.left c.loop-v.v
    c.get-weight.result.now low
    (weight c.args.vars.now c.args.weights.now c.loop-v.v c.get-weight.result.now
    c.requires.weights low c.get-weight.ensures) c.loop-v.invariant in
    omega (arith, more.1, size_few c.args.vars.now c.loop-v.v c.len.ensures.sizes)

pub nonzero_rem-left : goal.nonzero_rem-left
nonzero_rem-left c =
    let within = c.loop-v-test.true in
    let len = c.len-v-end.ensures.len in
    let low : c.loop-v.v < length c.args.vars.now = omega arith in
    (numbered_more c.args.vars.now c.args.number c.loop-v.codes c.loop-v.left c.loop-v.v
    c.get-weight.result.now low
    (weight c.args.vars.now c.args.weights.now c.loop-v.v c.get-weight.result.now
    c.requires.weights low c.get-weight.ensures) c.loop-v.invariant).0

pub loop-v-preserved : goal.loop-v-preserved
loop-v-preserved c =
    let within = c.loop-v-test.true in
    let len = c.len-v-end.ensures.len in
    let low : c.loop-v.v < length c.args.vars.now = omega arith in
    let more = numbered_more c.args.vars.now c.args.number c.loop-v.codes c.loop-v.left c.loop-v.v
    c.get-weight.result.now low
    (weight c.args.vars.now c.args.weights.now c.loop-v.v c.get-weight.result.now
    c.requires.weights low c.get-weight.ensures) c.loop-v.invariant in
    subst (λ (codes : List ℕ). Numbered c.args.vars.now c.args.number codes
    (c.loop-v.left % c.get-weight.result.now) (c.loop-v.v + 1)) (sym c.in_ok-push.ensures.ok)
    more.2

pub returns-clause-fits : goal.returns-clause-fits
returns-clause-fits c =
    let stop = c.loop-v-test.false in
    let len = c.len-v-end.ensures.len in
    (numbered_ends c.args.vars.now c.args.number c.loop-v.codes c.loop-v.left c.loop-v.v
    (omega arith) c.loop-v.invariant).0

pub returns-clause-rank : goal.returns-clause-rank
returns-clause-rank c =
    let stop = c.loop-v-test.false in
    let len = c.len-v-end.ensures.len in
    (numbered_ends c.args.vars.now c.args.number c.loop-v.codes c.loop-v.left c.loop-v.v
    (omega arith) c.loop-v.invariant).1
