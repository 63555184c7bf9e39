use Rattle.std.proofs.Common.{◌≤◌, length}
use Rattle.decision_diagram.specs.Diagrams.{Keeps, Means, level_of}
use Rattle.char_function.specs.inner.Left.{left_from}
use Rattle.char_function.proofs.fixing.results_node.Given as goal

abbrev pub decreases-loop-place : goal.decreases-loop-place
decreases-loop-place l = l.place

abbrev pub invariant-loop-place : goal.invariant-loop-place
invariant-loop-place l = record {
  kept : Keeps l.fn.store l.store;
  within : l.place ≤ length l.fixing.order.now;
  above : l.fixing.start ≤ l.place;
  means : Means l.store l.node (left_from l.fixing.machine.now l.fixing.order.now l.place l.i);
  level : l.place ≤ level_of l.store l.node;
}
