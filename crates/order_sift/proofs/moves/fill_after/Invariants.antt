use Rattle.std.proofs.Common.{◌≡◌, ◌+◌, ◌-◌, ◌*◌, ◌≤◌, ℕ, length, take}
use Rattle.std.specs.List.{remove}
use Rattle.decision_diagram.specs.Sets.{stands}
use Rattle.order_sift.specs.inner.Chains.{AreSizes}
use Rattle.order_sift.specs.inner.Classes.{AreClasses}
use Rattle.order_sift.proofs.MovedLevels.{front_of}
use Rattle.domains.specs.Tables.{product}
use Rattle.order_sift.specs.inner.Known.{in_set, AreKnown}
use Rattle.order_sift.specs.inner.Pairs.{HasRoom}
use Rattle.order_sift.proofs.moves.fill_after.Given as goal

abbrev pub invariant-loop-j : goal.invariant-loop-j
invariant-loop-j l = record {
  room : HasRoom (product l.moving.machine.now.vars) l.seen;
  known : AreKnown l.moving.machine.now l.known;
  long : length l.sizes ≡ length l.fn.sizes;
  later : l.i + 1 ≤ l.j;
  front : l.front ≡ front_of l.moving.machine.now l.moving.order.now l.i (l.j - 1);
  few : l.front ≤ 1024 * (length l.moving.order.now + l.j);
  set : (w : ℕ) → in_set l.set w ≡ stands (take (l.j - 1) (remove l.moving.order.now l.i)) w;
  classes : AreClasses l.moving.machine.now
      (stands (take (l.j - 1) (remove l.moving.order.now l.i))) l.without_item;
  sizes : AreSizes l.moving.machine.now l.moving.order.now l.i l.range.first l.sizes l.range.first
      (l.j - 1);
}
