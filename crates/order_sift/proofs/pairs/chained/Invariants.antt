use Rattle.std.proofs.Common.{◌≡◌, ◌<◌, ◌≤◌, ℕ, length, slice_index}
use Rattle.order_sift.specs.inner.Pairs.{AreBelow, HasRoom, HaveFirsts, pair_at}
use Rattle.order_sift.proofs.pairs.chained.Given as goal

abbrev pub invariant-loop-i : goal.invariant-loop-i
invariant-loop-i l = record {
  room : HasRoom (length l.classes) l.seen;
  long : length l.made ≡ length l.classes;
  below : AreBelow (length l.classes) l.made;
  rest : (p : ℕ) → l.i ≤ p → slice_index l.made p ≡ slice_index l.classes p;
  first : (p : ℕ) → p < l.i → slice_index l.codes p ≡ 0
      → slice_index l.made p ≡ slice_index l.classes p;
  firsts : HaveFirsts (pair_at l.made l.classes l.stride) l.seen l.made l.stride l.i
      (λ p. 0 < slice_index l.codes p);
}
