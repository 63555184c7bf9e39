use Rattle.std.proofs.Common.{◌≡◌, ◌≤◌, drop, length}
use Rattle.std.specs.Vec.Iter.{into_iter_items, into_iter_len}
use Rattle.machine_compiler.proofs.RightParts.{RightSoFar}
use Rattle.machine_compiler.proofs.shares.in_order.Given as goal

-- the places from this one on are left, and each machine before it has its right part
abbrev pub invariant-loop-place : goal.invariant-loop-place
invariant-loop-place l = record {
  left : into_iter_items l.place-iterator ≡ drop l.k l.fn.places;
  within : l.k ≤ length l.fn.places;
  count : into_iter_len l.place-iterator ≡ length (into_iter_items l.place-iterator);
  right : RightSoFar l.net.machines l.compiled;
  long : length l.compiled ≡ l.k;
}
