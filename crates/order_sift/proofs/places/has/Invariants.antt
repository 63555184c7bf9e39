use Rattle.std.proofs.Common.{◌≡◌, false, take}
use Rattle.decision_diagram.specs.Sets.{stands}
use Rattle.order_sift.proofs.places.has.Given as goal

abbrev pub invariant-loop-item : goal.invariant-loop-item
invariant-loop-item l = stands (take l.item-index l.list) l.number ≡ false
