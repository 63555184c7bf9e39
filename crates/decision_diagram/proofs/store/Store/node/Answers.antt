use Rattle.std.proofs.Common.{subst}
use Rattle.decision_diagram.specs.Diagrams.{Diagrams, AreReduced}
use Rattle.decision_diagram.proofs.Meanings.{means_only, means_found}
use Rattle.decision_diagram.proofs.store.Store.node.Goals as goal

pub returns-in-Some-clause-value : goal.returns-in-Some-clause-value
returns-in-Some-clause-value c =
    means_only c.args.self.now c.args.var c.args.kids.now c.in-Some.kid c.requires.var
    c.requires.kids c.requires.nodes c.in-Some.ensures.some c.in-Some.ensures.there

pub returns-in-Some-noted_node-clause-value : goal.returns-in-Some-noted_node-clause-value
returns-in-Some-noted_node-clause-value c =
    let ok = subst (λ (d : Diagrams). AreReduced d) c.self.view_is c.self.invariant.reduced in
    means_found c.args.self.now ok c.args.var c.args.kids.now c.in-Some-noted_node.node
    c.in-Some-noted_node.ensures
