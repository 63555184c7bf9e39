use Rattle.std.proofs.Common.{subst}
use Rattle.decision_diagram.specs.Diagrams.{Diagrams, AreReduced}
use Rattle.decision_diagram.proofs.Canonical.{canonical}
use Rattle.decision_diagram.proofs.store.Store.same_value_same_node.Goals as goal

pub returns-clause-canonical : goal.returns-clause-canonical
returns-clause-canonical c =
    canonical c.args.self.now
    (subst (λ (d : Diagrams). AreReduced d) c.self.view_is c.self.invariant.reduced)

pub returns-clause-reduced : goal.returns-clause-reduced
returns-clause-reduced c =
    subst (λ (d : Diagrams). AreReduced d) c.self.view_is c.self.invariant.reduced
