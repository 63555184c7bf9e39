use Rattle.std.proofs.Common.{◌≡◌, ◌<◌, ◌≤◌, ◌==◌, ℕ, false, length, get_or, map, take, slice_index}
use Rattle.std.specs.List.{list_any}
use Rattle.order_sift.specs.inner.Classes.{differing}
use Rattle.order_sift.proofs.points.level.Given as goal

abbrev pub invariant-loop-i : goal.invariant-loop-i
invariant-loop-i l = record {
  count : l.count ≡ differing (map (slice_index l.classes) (take l.i l.marks));
  few : l.count ≤ l.i;
  room : length l.met ≡ 1024;
  met : (n : ℕ) → n < 1024 → get_or l.met n false
      ≡ list_any (λ k. k == n) (map (slice_index l.classes) (take l.i l.marks));
}
