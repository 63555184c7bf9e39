use Rattle.std.proofs.Common.{◌≡◌, ◌+◌, ◌-◌, ◌*◌, ◌≤◌, [], ◌∷◌, ◌++◌, length, take, slice_index}
use Rattle.std.specs.List.{remove}
use Rattle.decision_diagram.specs.Sets.{stands}
use Rattle.order_sift.specs.inner.Chains.{AreSizes}
use Rattle.order_sift.specs.inner.Classes.{AreClasses}
use Rattle.order_sift.proofs.MovedLevels.{back_of}
use Rattle.domains.specs.Tables.{product}
use Rattle.order_sift.specs.inner.Known.{AreKnown}
use Rattle.order_sift.specs.inner.Pairs.{HasRoom}
use Rattle.order_sift.proofs.moves.fill_before.Given as goal

abbrev pub invariant-loop-t : goal.invariant-loop-t
invariant-loop-t l = record {
  room : HasRoom (product l.moving.machine.now.vars) l.seen;
  known : AreKnown l.moving.machine.now l.known;
  long : length l.sizes ≡ length l.fn.sizes;
  back : l.back ≡ back_of l.moving.machine.now l.moving.order.now l.i (l.i - l.t);
  few : l.back ≤ 1024 * (length l.moving.order.now + l.t);
  classes : AreClasses l.moving.machine.now
      (stands (take (l.i - l.t) (remove l.moving.order.now l.i)
      ++ slice_index l.moving.order.now l.i ∷ [])) l.with_item;
  sizes : AreSizes l.moving.machine.now l.moving.order.now l.i l.first l.sizes (l.i - l.t) l.i;
}
