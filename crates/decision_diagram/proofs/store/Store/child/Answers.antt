use Rattle.std.proofs.Common.{◌≡◌, ◌<◌, ◌∙◌, ℕ, List, length, slice_index, Some, sym, ap, subst}
use Rattle.decision_diagram.specs.Diagrams.{Diagrams, AreReduced, inner_at, kids_in}
use Rattle.decision_diagram.proofs.Meanings.{value_child}
use Rattle.decision_diagram.proofs.store.Store.child.Goals as goal

pub returns-clause-value : goal.returns-clause-value
returns-clause-value c = λ var codes shape code_is.
    let s = c.args.self.now in
    let ok = subst (λ (d : Diagrams). AreReduced d) c.self.view_is c.self.invariant.reduced in
    let node = c.inner.result in
    let is : inner_at s.nodes c.args.n ≡ Some node =
    subst (λ (n : ℕ). inner_at s.nodes n ≡ Some node) c.number.ensures c.inner.ensures.node in
    let low : c.args.code < length node.kids =
    subst (λ (kids : List ℕ). c.args.code < length kids) (ap kids_in is) c.requires.code in
    let at : slice_index node.kids c.args.code ≡ c.new.result =
    sym (c.new.ensures ∙ ap (λ (kids : List ℕ). slice_index kids c.from.result) c.kids.ensures
    ∙ ap (slice_index node.kids) c.from.ensures) in
    value_child s ok c.args.n node c.new.result c.args.code var codes is low at shape code_is
