use Rattle.std.proofs.Common.{◌≡◌, ◌≤◌, length}
use Rattle.order_sift.specs.inner.Pairs.{HasRoom, HaveFirsts, pair_at}
use Rattle.order_sift.proofs.pairs.paired.Given as goal

abbrev pub invariant-loop-i : goal.invariant-loop-i
invariant-loop-i l = record {
  room : HasRoom (length l.one) l.seen;
  long : length l.made ≡ length l.one;
  firsts : HaveFirsts (pair_at l.one l.other 0) l.seen l.made 0 l.i (λ p. 0 ≤ p);
}
