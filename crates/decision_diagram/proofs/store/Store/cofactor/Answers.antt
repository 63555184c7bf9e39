use Rattle.std.proofs.Common.{◌∙◌, sym, subst, refl, ⊎_elim}
use Rattle.decision_diagram.specs.Diagrams.{Diagrams, AreReduced}
use Rattle.decision_diagram.proofs.Meanings.{later_other}
use Rattle.decision_diagram.proofs.store.Store.cofactor.Goals as goal

pub returns-in-Inner-clause-later : goal.returns-in-Inner-clause-later
returns-in-Inner-clause-later c =
    let ok = subst (λ (d : Diagrams). AreReduced d) c.self.view_is c.self.invariant.reduced in
    later_other c.args.self.now ok c.args.n c.args.var c.requires.var c.requires.first
    (λ is. c.if-own-var.true (let e = sym c.in-Inner.is ∙ c.shape.ensures.shape ∙ is in cc))

pub returns-in-False : goal.returns-in-False
returns-in-False c =
    let ok = subst (λ (d : Diagrams). AreReduced d) c.self.view_is c.self.invariant.reduced in
    record {
      node = c.requires.node;
      later = later_other c.args.self.now ok c.args.n c.args.var c.requires.var c.requires.first
          (λ is. ⊎_elim (λ e. absurd (let f = sym e ∙ c.shape.ensures.shape ∙ is in cc))
          (λ e. absurd (let f = sym e ∙ c.shape.ensures.shape ∙ is in cc)) c.in-False.is);
      value = λ codes at. refl;
    }
