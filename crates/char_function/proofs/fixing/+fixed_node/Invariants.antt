use Rattle.std.proofs.Common.{◌-◌}
use Rattle.decision_diagram.specs.Diagrams.{Keeps}
use Rattle.char_function.specs.inner.Left.{AreLeft}
use Rattle.char_function.proofs.FixedKids.{AreFixedKids}
use Rattle.char_function.proofs.fixing.+fixed_node.Given as goal

abbrev pub decreases-fixed_node : goal.decreases-fixed_node
decreases-fixed_node l = l.fixing.now.start - l.place

abbrev pub invariant-loop-code : goal.invariant-loop-code
invariant-loop-code l = record {
  kept : Keeps l.fn.store l.store;
  kids : AreFixedKids l.fixing.machine.now l.fixing.order.now l.store l.place l.i l.stride l.kids
      l.code;
  known : AreLeft l.fixing.machine.now l.fixing.table.now l.store l.fixing.start l.known;
}
