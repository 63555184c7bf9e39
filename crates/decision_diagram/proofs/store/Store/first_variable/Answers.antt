use Rattle.std.proofs.Common.{ℕ, ◌<◌, length, sym, subst}
use Rattle.decision_diagram.specs.Diagrams.{Diagrams, AreReduced}
use Rattle.decision_diagram.proofs.Meanings.{var_below}
use Rattle.decision_diagram.proofs.store.Store.first_variable.Goals as goal

pub place_of-requires : goal.place_of-requires
place_of-requires c =
    let ok = subst (λ (d : Diagrams). AreReduced d) c.self.view_is c.self.invariant.reduced in
    let below = var_below c.args.self.now ok c.number.result c.inner.result c.inner.ensures.node in
    subst (λ (d : Diagrams). c.var-left.result < length d.order) (sym c.self.view_is)
    (subst (λ (v : ℕ). v < length c.args.self.now.order) (sym c.var-left.ensures) below)

pub place_of-requires-2 : goal.place_of-requires-2
place_of-requires-2 c =
    let ok = subst (λ (d : Diagrams). AreReduced d) c.self.view_is c.self.invariant.reduced in
    let below = var_below c.args.self.now ok c.number-2.result c.inner-2.result
    c.inner-2.ensures.node in
    subst (λ (d : Diagrams). c.var-right.result < length d.order) (sym c.self.view_is)
    (subst (λ (v : ℕ). v < length c.args.self.now.order) (sym c.var-right.ensures) below)

pub returns-then-place_of-clause-var : goal.returns-then-place_of-clause-var
returns-then-place_of-clause-var c =
    let ok = subst (λ (d : Diagrams). AreReduced d) c.self.view_is c.self.invariant.reduced in
    subst (λ (v : ℕ). v < length c.args.self.now.sizes) (sym c.var-left.ensures)
    (ok.nodes c.number.result c.inner.result c.inner.ensures.node).var

pub returns-else-place_of-clause-var : goal.returns-else-place_of-clause-var
returns-else-place_of-clause-var c =
    let ok = subst (λ (d : Diagrams). AreReduced d) c.self.view_is c.self.invariant.reduced in
    subst (λ (v : ℕ). v < length c.args.self.now.sizes) (sym c.var-right.ensures)
    (ok.nodes c.number-2.result c.inner-2.result c.inner-2.ensures.node).var
