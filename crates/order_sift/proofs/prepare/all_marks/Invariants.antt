use Rattle.std.proofs.Common.{◌≡◌, ◌<◌, ℕ, [], length, get_or}
use Rattle.order_sift.specs.inner.Classes.{AreMarks}
use Rattle.order_sift.proofs.prepare.all_marks.Given as goal

abbrev pub invariant-loop-item : goal.invariant-loop-item
invariant-loop-item l = record {
  wide : length l.marks ≡ l.item;
  each : (x : ℕ) → x < l.item → AreMarks l.m x (get_or l.marks x []);
}
