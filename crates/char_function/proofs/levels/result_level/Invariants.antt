use Rattle.std.proofs.Common.{length}
use Rattle.decision_diagram.specs.Diagrams.{Keeps}
use Rattle.char_function.proofs.Blocks.{AreHalf}
use Rattle.char_function.proofs.levels.result_level.Given as goal

abbrev pub invariant-loop-j : goal.invariant-loop-j
invariant-loop-j l = record {
  kept : Keeps l.fn.store l.store;
  half : AreHalf l.fixing.machine.now l.fixing.order.now l.store l.place l.block l.block 1
      l.nodes.items l.j (length l.fn.nodes.items);
}
