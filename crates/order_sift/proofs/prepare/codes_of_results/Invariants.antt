use Rattle.std.proofs.Common.{◌≡◌, ◌<◌, ℕ, [], length, get_or, slice_index}
use Rattle.domains.specs.Tables.{product}
use Rattle.transition_table.specs.Computed.{result_code}
use Rattle.order_sift.specs.inner.Classes.{snapshot_at}
use Rattle.order_sift.specs.inner.Pairs.{AreBelow}
use Rattle.order_sift.proofs.prepare.codes_of_results.Given as goal

abbrev pub invariant-loop-y : goal.invariant-loop-y
invariant-loop-y l = record {
  wide : length l.results ≡ l.y;
  long : (z : ℕ) → z < l.y → length (get_or l.results z []) ≡ product l.m.vars;
  below : (z : ℕ) → z < l.y → AreBelow 33 (get_or l.results z []);
  code : (z i : ℕ) → z < l.y → i < product l.m.vars
      → slice_index (get_or l.results z []) i ≡ result_code l.m z (snapshot_at l.m i);
}
