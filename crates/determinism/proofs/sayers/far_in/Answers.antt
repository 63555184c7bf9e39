use Rattle.std.proofs.Common.{◌+◌, ◌*◌, ap, ◌∙◌, arith, inl, inr}
use Rattle.std.specs.Int.{bit_at}
use Rattle.std.proofs.lemmas.Nat.Bits.{bit_at-zero}
use Rattle.std.proofs.lemmas.Option.{get_or_from_slice_get}
use Rattle.determinism.proofs.AreSayers.{fewer, of_either, of_less}
use Rattle.determinism.proofs.sayers.far_in.Goals as goal

pub loop-left-init : goal.loop-left-init
loop-left-init c = record {
  far = λ i set. absurd (let clear = bit_at-zero i in omega arith);
  inside = λ i set. set;
}

-- the rows that say the lowest place that is left
pub loop-left-preserved : goal.loop-left-preserved
loop-left-preserved c =
    let place = c.least-place.result in
    let held = get_or_from_slice_get c.args.sayers.now (c.args.block * 64 + place)
    c.get.result.now 0 (rw c.from.ensures at c.get.ensures) in
    record {
      far = λ i set.
          elim (of_either c.loop-left.far c.get.result.now c.either-far.result i
          (c.either-far.ensures i) set) [
            | inl before ↦ c.loop-left.invariant.far i before
            | inr new ↦ (
              place,
              c.least-place.ensures.below,
              ap (λ n. bit_at n i) held ∙ new,
              c.loop-left.invariant.inside place c.least-place.ensures.member,
            )
          ];
      inside = λ i set. c.loop-left.invariant.inside i (of_less c.loop-left.left
          c.without-left.result place c.without-left.ensures i set);
    }

pub loop-left-smaller : goal.loop-left-smaller
loop-left-smaller c =
    fewer c.loop-left.left c.without-left.result c.least-place.result c.without-left.ensures
    c.least-place.ensures.below c.least-place.ensures.member
