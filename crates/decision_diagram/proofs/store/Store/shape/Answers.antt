use Rattle.std.proofs.Common.{◌≡◌, ◌<◌, ◌∙◌, ℕ, length, true, false, sym, subst}
use Rattle.decision_diagram.specs.Diagrams.{Diagrams, AreReduced}
use Rattle.decision_diagram.proofs.Meanings.{value_constant}
use Rattle.decision_diagram.proofs.store.Store.shape.Goals as goal

pub returns-in-0-clause-never : goal.returns-in-0-clause-never
returns-in-0-clause-never c = λ _ codes.
    value_constant c.args.self.now false c.args.n codes (sym c.number.ensures ∙ c.in-0.is)

pub returns-in-1-clause-always : goal.returns-in-1-clause-always
returns-in-1-clause-always c = λ _ codes.
    value_constant c.args.self.now true c.args.n codes (sym c.number.ensures ∙ c.in-1.is)

pub returns-in_default-clause-var : goal.returns-in_default-clause-var
returns-in_default-clause-var c = λ var is.
    let s = c.args.self.now in
    let ok = subst (λ (d : Diagrams). AreReduced d) c.self.view_is c.self.invariant.reduced in
    let same : c.inner.result.var ≡ var = cc in
    subst (λ (v : ℕ). v < length s.sizes) same
    (ok.nodes c.number.result c.inner.result c.inner.ensures.node).var
