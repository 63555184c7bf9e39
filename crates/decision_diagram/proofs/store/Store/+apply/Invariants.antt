use Rattle.std.proofs.Common.{◌-◌, min, length}
use Rattle.decision_diagram.specs.Diagrams.{level_of, Keeps}
use Rattle.decision_diagram.proofs.OperationResults.{AreParts}
use Rattle.decision_diagram.proofs.store.Store.+apply.Given as goal

-- the nodes that are read are ever later in the order
abbrev pub decreases-apply : goal.decreases-apply
decreases-apply l =
    length l.self.now.order - min (level_of l.self.now l.a) (level_of l.self.now l.b)

abbrev pub invariant-loop-code : goal.invariant-loop-code
invariant-loop-code l = record {
  kept : Keeps l.fn.self l.self;
  parts : AreParts l.fn.self l.self l.op l.a l.b l.var l.kids.items l.code;
}
