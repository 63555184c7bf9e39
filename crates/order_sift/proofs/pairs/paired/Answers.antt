use Rattle.std.proofs.Common.{◌≡◌, ◌∙◌, ◌+◌, ◌-◌, ◌<◌, ◌≤◌, ℕ, List, length, slice_index, arith, refl, sym, ap, subst}
use Rattle.std.proofs.lemmas.List.{length-set}
use Rattle.order_sift.specs.inner.Pairs.{HaveFirsts, key_of, pair_at}
use Rattle.order_sift.proofs.PairKeys.{first_more, room_kept, same_first, same_parts}
use Rattle.order_sift.proofs.pairs.paired.Goals as goal

-- no stride before a place stands the place
own_pair : (one other : List ℕ) (i : ℕ)
    → pair_at one other 0 i ≡ key_of (length one) (slice_index one i) (slice_index other i)
own_pair one other i =
    let e : i - 0 ≡ i = omega arith in
    ap (λ (k : ℕ). key_of (length one) (slice_index one k) (slice_index other i)) e

pub first_with-first-requires-clause-pairs : goal.first_with-first-requires-clause-pairs
first_with-first-requires-clause-pairs c = record {
  room = c.loop-i.invariant.room;
  few = c.requires.few;
  long = c.requires.long;
  one_below = c.requires.one_below;
  other_below = c.requires.other_below;
}

pub loop-i-preserved : goal.loop-i-preserved
loop-i-preserved c =
    let one = c.args.one.now in
    let other = c.args.other.now in
    let i = c.loop-i.i in
    let inv = c.loop-i.invariant in
    let old = c.loop-i.made in
    let call = c.first_with-first.ensures in
    let x = c.first_with-first.result in
    let li : i < length one = c.loop-i-test.true in
    let long = inv.long in
    let pair = pair_at one other 0 in
    record {
      room = room_kept (length one) _ _ c.first_with-first.auto.seen inv.room;
      long = ap (λ (xs : List ℕ). length xs) c.set.ensures ∙ length-set old i x ∙ long;
      firsts = subst (λ (xs : List ℕ). HaveFirsts pair c.first_with-first.new.seen xs 0 (i + 1)
          (λ p. 0 ≤ p)) (sym c.set.ensures)
          (first_more pair pair c.loop-i.seen c.first_with-first.new.seen old 0 i x (λ p. 0 ≤ p)
          (omega arith) call.range.1 call.range.0 call.is call.seen call.kept call.again (λ p lp. refl)
          inv.firsts);
    }

pub returns-clause-below : goal.returns-clause-below
returns-clause-below c p lp =
    let inv = c.loop-i.invariant in
    let long = inv.long in
    let end = c.loop-i.auto.i-end in
    let first = (inv.firsts p (let a = c.loop-i-test.false in omega arith)
    (let z : 0 ≤ p = omega arith in z)).1 in
    omega arith

pub returns-clause-same : goal.returns-clause-same
returns-clause-same c i j li lj =
    let one = c.args.one.now in
    let other = c.args.other.now in
    let inv = c.loop-i.invariant in
    let end : length one ≤ c.loop-i.i = c.loop-i-test.false in
    let firsts = same_first (pair_at one other 0) c.loop-i.seen c.loop-i.made 0 c.loop-i.i
    (λ p. 0 ≤ p) inv.firsts i j (omega arith) (omega arith) (let z : 0 ≤ i = omega arith in z)
    (let z : 0 ≤ j = omega arith in z) in
    let parts = same_parts (length one) (slice_index other i) (slice_index one i)
    (slice_index other j) (slice_index one j) (c.requires.one_below i li)
    (c.requires.one_below j lj) in
    let one_is = own_pair one other i in
    let other_is = own_pair one other j in (
      λ h. parts.0 (sym one_is ∙ firsts.0 h ∙ other_is),
      λ h. firsts.1 (one_is ∙ parts.1 h ∙ sym other_is),
    )
