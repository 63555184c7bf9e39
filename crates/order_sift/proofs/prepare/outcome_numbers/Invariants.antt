use Rattle.std.proofs.Common.{◌≡◌, ◌<◌, ℕ, length, slice_index}
use Rattle.std.specs.Prelude.{◌↔◌}
use Rattle.domains.specs.Tables.{product}
use Rattle.transition_table.specs.Computed.{result_code}
use Rattle.order_sift.specs.inner.Classes.{snapshot_at}
use Rattle.order_sift.specs.inner.Pairs.{AreBelow, HasRoom}
use Rattle.order_sift.proofs.prepare.outcome_numbers.Given as goal

abbrev pub invariant-loop-y : goal.invariant-loop-y
invariant-loop-y l = record {
  room : HasRoom (product l.m.vars) l.seen;
  long : length l.made ≡ product l.m.vars;
  below : AreBelow (product l.m.vars) l.made;
  same : (i j : ℕ) → i < product l.m.vars → j < product l.m.vars
      → (slice_index l.made i ≡ slice_index l.made j)
      ↔ ((z : ℕ) → z < l.y → result_code l.m z (snapshot_at l.m i)
      ≡ result_code l.m z (snapshot_at l.m j));
}
