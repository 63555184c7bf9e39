use Rattle.std.proofs.Common.{◌≡◌, ◌∙◌, ◌+◌, ◌*◌, ◌^◌, ◌<◌, ◌≤◌, ℕ, suc, true, List, length, drop, slice_get, slice_index, Some, arith, sym, ap}
use Rattle.std.proofs.Math.Seq.{drop-cons}
use Rattle.std.proofs.lemmas.Option.{get_or_from_slice_get}
use Rattle.domains.specs.Tables.{product, are_sizes}
use Rattle.order_sift.proofs.AreSizes.{factor_below, product_some}
use Rattle.order_sift.proofs.turns.snapshot_count.Goals as goal
use Rattle.domains.proofs.FittingCodes.{sizes_drop}

here : (sizes : List ℕ) (v : ℕ) → v < length sizes
    → product (drop v sizes) ≡ slice_index sizes v * product (drop (v + 1) sizes)
here sizes v low = let e : suc v ≡ v + 1 = omega arith in
    ap product (drop-cons sizes v 0 low) ∙ ap (λ k. slice_index sizes v * product (drop k sizes)) e

-- with one more size
more : (sizes : List ℕ) (v count size w : ℕ) → are_sizes sizes ≡ true → v < length sizes → w ≡ v
    → slice_get sizes w ≡ Some size → count * product (drop v sizes) ≡ product sizes
    → product sizes ≤ 65536 → ((count * size) * product (drop (v + 1) sizes) ≡ product sizes)
    × (count * size < 2 ^ 64)
more sizes v count size w sized low same get inv few =
    let at : slice_index sizes v ≡ size =
    ap (slice_index sizes) (sym same) ∙ get_or_from_slice_get sizes w size 0 get in
    let step : product (drop v sizes) ≡ size * product (drop (v + 1) sizes) =
    here sizes v low ∙ ap (λ k. k * product (drop (v + 1) sizes)) at in
    let split : count * (size * product (drop (v + 1) sizes)) ≡ product sizes =
    ap (λ k. count * k) (sym step) ∙ inv in
    let some = product_some (drop (v + 1) sizes) (sizes_drop sizes (v + 1) sized) in
    let below = factor_below count size (product (drop (v + 1) sizes)) (product sizes) split some in
    (grind arith, omega arith)

pub overflow_mul-count : goal.overflow_mul-count
overflow_mul-count c =
    let low : c.loop-v.v < length c.args.m.now.vars = let a = c.loop-v-test.true in
    let b = c.var_count-vars.ensures.count in omega arith in
    let h = more c.args.m.now.vars c.loop-v.v c.loop-v.count c.get.result.now c.from.result
    c.var_count-vars.ensures.sizes low c.from.ensures c.get.ensures c.loop-v.invariant
    c.var_count-vars.ensures.snapshots in
    let e : c.loop-v.count * c.from-count.result ≡ c.loop-v.count * c.get.result.now =
    ap (λ k. c.loop-v.count * k) c.from-count.ensures in
    let b = h.1 in
    omega arith

pub loop-v-preserved : goal.loop-v-preserved
loop-v-preserved c =
    let low : c.loop-v.v < length c.args.m.now.vars = let a = c.loop-v-test.true in
    let b = c.var_count-vars.ensures.count in omega arith in
    let h = more c.args.m.now.vars c.loop-v.v c.loop-v.count c.get.result.now c.from.result
    c.var_count-vars.ensures.sizes low c.from.ensures c.get.ensures c.loop-v.invariant
    c.var_count-vars.ensures.snapshots in
    ap (λ k. (c.loop-v.count * k) * product (drop (c.loop-v.v + 1) c.args.m.now.vars))
    c.from-count.ensures ∙ h.0
