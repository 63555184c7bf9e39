use Rattle.std.proofs.Common.{◌≡◌, ◌+◌, ◌-◌, ◌*◌, ◌<◌, ◌≤◌, ℕ, length, slice_index}
use Rattle.order_sift.specs.inner.Pairs.{AreBelow}
use Rattle.order_sift.proofs.points.take_last.Given as goal

abbrev pub invariant-loop-t : goal.invariant-loop-t
invariant-loop-t l = record {
  long : length l.numbers ≡ length l.codes;
  below : AreBelow (length l.codes) l.numbers;
  kept : (p : ℕ) → p + l.t < length l.codes
      → slice_index l.numbers p ≡ slice_index l.fn.numbers p;
  each : (p : ℕ) → p < length l.codes → length l.codes ≤ p + l.t → slice_index l.numbers p
      ≡ slice_index l.fn.numbers (p + l.last * l.stride - slice_index l.codes p * l.stride);
}
