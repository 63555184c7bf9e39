use Rattle.std.proofs.Common.{◌≡◌, ◌∙◌, ◌+◌, ◌-◌, ◌<◌, ◌≤◌, ℕ, List, length, slice_index, arith, sym, ap}
use Rattle.std.proofs.lemmas.Option.{get_or_from_slice_get}
use Rattle.std.proofs.lemmas.List.{length-replicate}
use Rattle.domains.specs.Tables.{product}
use Rattle.char_function.specs.Sizes.{Size}
use Rattle.order_sift.specs.Moves.{moved}
use Rattle.order_sift.proofs.PairKeys.{room_kept}
use Rattle.order_sift.proofs.ChainSteps.{filled_at, size_own}
use Rattle.order_sift.proofs.moves.sizes_at.Goals as goal

pub fill_before-requires-clause-range : goal.fill_before-requires-clause-range
fill_before-requires-clause-range c =
    let range = c.requires.range in
    record {
      first = range.first;
      i = let own : c.args.i ≤ c.args.i = omega arith in own;
      last = let a = range.i in let b = range.last in omega arith;
      places = λ j a b. range.places j a (let d = range.i in omega arith);
    }

pub fill_before-requires-clause-long : goal.fill_before-requires-clause-long
fill_before-requires-clause-long c =
    let range = c.args.range in
    let long = ap (λ (xs : List ℕ). length xs) c.in_ok-sizes.ensures
    ∙ length-replicate (range.last + 1 - range.first) c.get-whole.result.now in
    let a = c.requires.range.first in
    let b = c.requires.range.i in
    omega arith

pub fill_before-requires-clause-own : goal.fill_before-requires-clause-own
fill_before-requires-clause-own c j a b =
    let m = c.args.moving.now.machine.now in
    let o = c.args.moving.now.order.now in
    let chain = c.args.moving.now.chain.now in
    let laws = c.laws_of_levels.ensures.laws in
    let sized = c.laws_of_levels.ensures.sizes in
    let i = c.args.i in
    let l = c.len-items.ensures.len in
    let range = c.args.range in
    let e : j ≡ i = omega arith in
    let h = c.requires.range.first in
    let k = c.requires.range.i in
    let li : i < length o = let d = c.requires.range.last in omega arith in
    let whole_is = ap (slice_index chain.backs) (sym l)
    ∙ get_or_from_slice_get chain.backs c.len-items.result c.get-whole.result.now 0
    c.get-whole.ensures in
    ap (λ (xs : List ℕ). slice_index xs (j - range.first)) c.in_ok-sizes.ensures
    ∙ filled_at c.get-whole.result.now (range.last + 1 - range.first) (j - range.first)
    (omega arith)
    ∙ sym whole_is
    ∙ size_own m o laws c.requires.moving.sure c.requires.moving.allowed chain.classes chain.backs
    c.requires.moving.chain i li sized
    ∙ ap (λ (n : ℕ). Size m (moved o i n)) (sym e)

pub fill_after-requires-clause-sets : goal.fill_after-requires-clause-sets
fill_after-requires-clause-sets c =
    record {
      room = room_kept (product c.args.moving.now.machine.now.vars) _ _ c.fill_before.auto.seen
          c.requires.sets.room;
      known = c.in_ok-fill_before.ensures.known;
    }

pub fill_after-requires-clause-long : goal.fill_after-requires-clause-long
fill_after-requires-clause-long c =
    let range = c.args.range in
    let kept = c.in_ok-fill_before.ensures.long in
    let long = ap (λ (xs : List ℕ). length xs) c.in_ok-sizes.ensures
    ∙ length-replicate (range.last + 1 - range.first) c.get-whole.result.now in
    let a = c.requires.range.first in
    let b = c.requires.range.i in
    omega arith

pub returns-clause-long : goal.returns-clause-long
returns-clause-long c =
    let range = c.args.range in
    let kept = c.in_ok-fill_before.ensures.long in
    let kept_after = c.in_ok-fill_after.ensures.long in
    let long = ap (λ (xs : List ℕ). length xs) c.in_ok-sizes.ensures
    ∙ length-replicate (range.last + 1 - range.first) c.get-whole.result.now in
    let a = c.requires.range.first in
    let b = c.requires.range.i in
    omega arith

pub returns-clause-each : goal.returns-clause-each
returns-clause-each c k low =
    let range = c.args.range in
    let kept = c.in_ok-fill_before.ensures.long in
    let kept_after = c.in_ok-fill_after.ensures.long in
    let long = ap (λ (xs : List ℕ). length xs) c.in_ok-sizes.ensures
    ∙ length-replicate (range.last + 1 - range.first) c.get-whole.result.now in
    let a = c.requires.range.first in
    let b = c.requires.range.i in
    let e : k ≡ range.first + k - range.first = omega arith in
    ap (slice_index c.fill_after.new.sizes) e
    ∙ c.in_ok-fill_after.ensures.each (range.first + k) (omega arith) (omega arith)
