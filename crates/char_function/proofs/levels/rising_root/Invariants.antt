use Rattle.std.proofs.Common.{◌≤◌, length}
use Rattle.decision_diagram.specs.Diagrams.{Keeps}
use Rattle.char_function.specs.inner.Rising.{AreLevel}
use Rattle.char_function.proofs.levels.rising_root.Given as goal

abbrev pub decreases-loop-place : goal.decreases-loop-place
decreases-loop-place l = l.place

abbrev pub invariant-loop-place : goal.invariant-loop-place
invariant-loop-place l = record {
  kept : Keeps l.fn.store l.store;
  within : l.place ≤ length l.fixing.order.now;
  level : AreLevel l.fixing.machine.now l.fixing.order.now l.store l.place l.block l.nodes.items;
}
