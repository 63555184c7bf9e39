use Rattle.decision_diagram.specs.Diagrams.{Keeps}
use Rattle.char_function.specs.inner.Left.{AreLeft}
use Rattle.char_function.proofs.Blocks.{AreFirstLeft}
use Rattle.char_function.proofs.levels.last_level.Given as goal

abbrev pub invariant-loop-i : goal.invariant-loop-i
invariant-loop-i l = record {
  kept : Keeps l.fn.store l.store;
  known : AreLeft l.fixing.machine.now l.fixing.table.now l.store l.fixing.start l.known;
  made : AreFirstLeft l.fixing.machine.now l.fixing.order.now l.store l.fixing.start l.nodes.items
      l.i;
}
