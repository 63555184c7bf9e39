use Rattle.std.proofs.Common.{◌*◌}
use Rattle.decision_diagram.specs.Diagrams.{Keeps}
use Rattle.char_function.proofs.Blocks.{AreHalf}
use Rattle.char_function.proofs.levels.variable_level.Given as goal

abbrev pub invariant-loop-j : goal.invariant-loop-j
invariant-loop-j l = record {
  kept : Keeps l.fn.store l.store;
  half : AreHalf l.fixing.machine.now l.fixing.order.now l.store l.place (l.size * l.block) l.block
      l.size l.nodes.items l.j l.count;
}
