use Rattle.std.proofs.Common.{◌≡◌, ◌-◌, ℕ, slice_get, Some, sym, subst, arith}
use Rattle.domains.proofs.Ranks.{length_fits}
use Rattle.table_use.proofs.Numbers.{product_end, product_step, rank_end, rank_low, rank_step}
use Rattle.table_use.proofs.lookup.number_of.Goals as goal
use Rattle.domains.proofs.FittingCodes.{product_after}

pub loop-v-init : goal.loop-v-init
loop-v-init c =
    let vars = c.args.vars.now in (
      sym (rank_end vars c.args.codes.now c.len-v.result c.len-v.ensures.len),
      sym (product_end vars c.len-v.result c.len-v.ensures.len),
    )

pub get-requires : goal.get-requires
get-requires c = omega (arith, length_fits c.args.vars.now c.args.codes.now c.requires.fits)

pub overflow_mul-number : goal.overflow_mul-number
overflow_mul-number c =
    let vars = c.args.vars.now in
    let codes = c.args.codes.now in
    let at = subst (λ (n : ℕ). slice_get codes (c.loop-v.v - 1) ≡ Some n) (sym c.from.ensures)
    c.get.ensures in
    let step = rank_step vars codes (c.loop-v.v - 1) c.loop-v.v c.from.result c.loop-v.step
    c.loop-v.number c.requires.fits (omega arith) (omega arith) at c.loop-v.invariant.0
    c.loop-v.invariant.1 in
    let low = rank_low vars codes (c.loop-v.v - 1) c.len-v.ensures.sizes c.requires.fits in
    let few = c.requires.few in
    omega arith

pub overflow_add-number : goal.overflow_add-number
overflow_add-number c =
    let vars = c.args.vars.now in
    let codes = c.args.codes.now in
    let at = subst (λ (n : ℕ). slice_get codes (c.loop-v.v - 1) ≡ Some n) (sym c.from.ensures)
    c.get.ensures in
    let step = rank_step vars codes (c.loop-v.v - 1) c.loop-v.v c.from.result c.loop-v.step
    c.loop-v.number c.requires.fits (omega arith) (omega arith) at c.loop-v.invariant.0
    c.loop-v.invariant.1 in
    let low = rank_low vars codes (c.loop-v.v - 1) c.len-v.ensures.sizes c.requires.fits in
    let few = c.requires.few in
    omega arith

pub overflow_mul-step : goal.overflow_mul-step
overflow_mul-step c =
    let vars = c.args.vars.now in
    let at = subst (λ (n : ℕ). slice_get vars (c.loop-v.v - 1) ≡ Some n) (sym c.from-step.ensures)
    c.get-in-loop-v.ensures in
    let step = product_step vars (c.loop-v.v - 1) c.loop-v.v c.from-step.result c.loop-v.step
    (omega arith) (omega arith) at c.loop-v.invariant.1 in
    let most = product_after vars (c.loop-v.v - 1) c.len-v.ensures.sizes in
    let few = c.requires.few in
    omega arith

pub loop-v-preserved : goal.loop-v-preserved
loop-v-preserved c =
    let vars = c.args.vars.now in
    let codes = c.args.codes.now in
    let at = subst (λ (n : ℕ). slice_get codes (c.loop-v.v - 1) ≡ Some n) (sym c.from.ensures)
    c.get.ensures in
    let size = subst (λ (n : ℕ). slice_get vars (c.loop-v.v - 1) ≡ Some n) (sym c.from-step.ensures)
    c.get-in-loop-v.ensures in (
      rank_step vars codes (c.loop-v.v - 1) c.loop-v.v c.from.result c.loop-v.step
          c.loop-v.number c.requires.fits (omega arith) (omega arith) at c.loop-v.invariant.0
          c.loop-v.invariant.1,
      product_step vars (c.loop-v.v - 1) c.loop-v.v c.from-step.result c.loop-v.step
          (omega arith) (omega arith) size c.loop-v.invariant.1,
    )
