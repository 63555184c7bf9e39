use Rattle.std.proofs.Common.{◌≡◌, ◌<◌, ℕ, length, slice_index}
use Rattle.transition_table.specs.Computed.{result_code}
use Rattle.order_sift.specs.inner.Classes.{snapshot_at}
use Rattle.order_sift.specs.inner.Pairs.{AreBelow}
use Rattle.order_sift.proofs.prepare.codes_of_result.Given as goal

abbrev pub invariant-loop-i : goal.invariant-loop-i
invariant-loop-i l = record {
  long : length l.codes ≡ l.i;
  below : AreBelow 33 l.codes;
  each : (k : ℕ) → k < l.i → slice_index l.codes k ≡ result_code l.m l.y (snapshot_at l.m k);
}
