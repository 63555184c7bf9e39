use Rattle.std.proofs.Common.{◌≡◌, slice_set, ◌+◌, ◌*◌, ◌/◌, length, ap, sym, ◌∙◌, subst, inl, inr, List, ℕ}
use Rattle.std.specs.Int.{bit_at}
use Rattle.std.proofs.lemmas.List.{length-set}
use Rattle.std.proofs.lemmas.Option.{get_or_from_slice_get}
use Rattle.determinism.specs.inner.Sayers.{HasAdded}
use Rattle.determinism.proofs.AreSayers.{added, fewer, more_added, of_less}
use Rattle.determinism.proofs.Says.{with_cases}
use Rattle.determinism.proofs.sayers.add_row.Goals as goal

pub loop-left-init : goal.loop-left-init
loop-left-init c = record {
  long = c.requires.long;
  added = λ block place i below is. inl is;
  inside = λ i set. set;
}

-- the lowest place that is left
pub loop-left-preserved : goal.loop-left-preserved
loop-left-preserved c =
    let sayers = c.loop-left.sayers in
    let row = c.args.row in
    let place = c.least-place.result in
    let k = row / 64 * 64 + place in
    let put : c.set.new.self ≡ slice_set sayers k c.with-set.result =
    rw c.from.ensures at c.set.ensures in
    let held = get_or_from_slice_get sayers k c.get.result.now 0
    (rw c.from.ensures at c.get.ensures) in
    record {
      long = ap length put ∙ length-set sayers k c.with-set.result
          ∙ c.loop-left.invariant.long;
      added = more_added c.args.sayers.now sayers c.set.new.self row c.args.said
          c.loop-left.invariant.added
          (subst (λ (next : List ℕ). HasAdded sayers next row c.args.said) (sym put)
          (added sayers row c.args.said place c.with-set.result c.least-place.ensures.below
          c.requires.row c.loop-left.invariant.long
          (c.loop-left.invariant.inside place c.least-place.ensures.member)
          (λ p is.
          elim (with_cases c.with-set.result c.get.result.now _ c.with-set.ensures p is) [
            | inl here ↦ inl here
            | inr before ↦ inr (ap (λ n. bit_at n p) held ∙ before)
          ])));
      inside = λ i set. c.loop-left.invariant.inside i
          (of_less c.loop-left.left c.without-left.result place c.without-left.ensures i set);
    }

pub loop-left-smaller : goal.loop-left-smaller
loop-left-smaller c =
    fewer c.loop-left.left c.without-left.result c.least-place.result c.without-left.ensures
    c.least-place.ensures.below c.least-place.ensures.member
