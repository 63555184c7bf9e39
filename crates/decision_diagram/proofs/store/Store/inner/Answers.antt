use Rattle.std.proofs.Common.{◌≡◌, ◌∙◌, ℕ, List, Some, sym, ap, subst}
use Rattle.decision_diagram.specs.Diagrams.{Diagrams, AreReduced, inner_at}
use Rattle.decision_diagram.specs.Keys.{IsKey, node_of}
use Rattle.decision_diagram.proofs.Keys.{inner_key, key_read}
use Rattle.decision_diagram.proofs.store.Store.inner.Goals as goal

pub new-requires : goal.new-requires
new-requires c =
    let key = c.index-as_slice-number.result in
    let at = key_read c.args.self.now c.self.inside.nodes.keys c.as_slice.result.now key
    c.args.number (ap (λ (d : Diagrams). d.nodes) c.self.view_is) c.as_slice.ensures.keys
    c.requires.inner c.requires.node c.index-as_slice-number.is in
    subst IsKey (sym c.deref.ensures.value) (c.self.invariant.keys _ key at)

pub returns-clause-before : goal.returns-clause-before
returns-clause-before c =
    let s = c.args.self.now in
    let ok = subst (λ (d : Diagrams). AreReduced d) c.self.view_is c.self.invariant.reduced in
    let key = c.index-as_slice-number.result in
    let at = key_read s c.self.inside.nodes.keys c.as_slice.result.now key c.args.number
    (ap (λ (d : Diagrams). d.nodes) c.self.view_is) c.as_slice.ensures.keys c.requires.inner
    c.requires.node c.index-as_slice-number.is in
    let is : inner_at s.nodes c.args.number ≡ Some c.new.result =
    ap (λ (d : Diagrams). inner_at d.nodes c.args.number) (sym c.self.view_is)
    ∙ inner_key c.self.inside.nodes.keys c.args.number key c.requires.inner at
    ∙ ap (λ (numbers : List ℕ). Some (node_of numbers)) (sym c.deref.ensures.value)
    ∙ ap Some (sym c.new.ensures) in
    (ok.nodes c.args.number c.new.result is).before
