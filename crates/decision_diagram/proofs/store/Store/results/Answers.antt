use Rattle.std.proofs.Common.{sym, subst}
use Rattle.decision_diagram.specs.declared.operation.Operation.{Operation}
use Rattle.decision_diagram.specs.declared.operation.Operation.TheVariants.{And, Or}
use Rattle.decision_diagram.specs.Diagrams.{Diagrams}
use Rattle.decision_diagram.specs.Operations.{AreResults}
use Rattle.decision_diagram.proofs.store.Store.results.Goals as goal

pub returns-in-And : goal.returns-in-And
returns-in-And c =
    subst (λ (op : Operation). AreResults c.args.self.now op c.self.inside.conjunctions)
    (sym c.in-And.is)
    (subst (λ (s : Diagrams). AreResults s And c.self.inside.conjunctions) c.self.view_is
    c.self.invariant.conjunctions)

pub returns-in-Or : goal.returns-in-Or
returns-in-Or c =
    subst (λ (op : Operation). AreResults c.args.self.now op c.self.inside.disjunctions)
    (sym c.in-Or.is)
    (subst (λ (s : Diagrams). AreResults s Or c.self.inside.disjunctions) c.self.view_is
    c.self.invariant.disjunctions)
