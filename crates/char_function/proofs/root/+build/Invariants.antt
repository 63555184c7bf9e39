use Rattle.std.proofs.Common.{◌-◌, length}
use Rattle.decision_diagram.specs.Diagrams.{Keeps}
use Rattle.char_function.specs.inner.Known.{AreKnown}
use Rattle.char_function.specs.inner.Points.{points}
use Rattle.char_function.proofs.GroupNodes.{AreKids}
use Rattle.char_function.proofs.root.+build.Given as goal

abbrev pub decreases-build : goal.decreases-build
decreases-build l = length l.store.now.order - l.place

abbrev pub invariant-loop-part : goal.invariant-loop-part
invariant-loop-part l = record {
  kept : Keeps l.fn.store l.store;
  kids : AreKids (points l.making.machine.now) l.fn.store l.store l.place l.item l.group
      l.kids.items l.part-index;
  known : AreKnown l.store (length l.making.machine.now.vars) l.making.start
      l.making.table.now.outcomes l.known;
}
