use Rattle.std.proofs.Common.{◌∙◌, sym, length, ◌<◌, ◌≡◌, subst, ℕ, List, slice_index, slice_get, Some}
use Rattle.decision_diagram.proofs.ListItems.{read}
use Rattle.decision_diagram.proofs.order.Order.place_of.Goals as goal
use Rattle.domains.proofs.Places.{place_below}

pub returns-clause-within : goal.returns-clause-within
returns-clause-within c =
    let vars = c.self.inside.vars in
    let h : c.args.var < length vars = rw c.self.view_is c.requires in
    let is : slice_index c.self.inside.places c.args.var ≡ c.get.result.now =
    read c.self.inside.places c.args.var c.get.result.now 0
    (subst (λ (v : ℕ). slice_get c.self.inside.places v ≡ Some c.get.result.now) c.from.ensures
    c.get.ensures) in
    let low : c.get.result.now < length vars =
    subst (λ (p : ℕ). p < length vars) (sym (c.self.invariant.1.at c.args.var h) ∙ is)
    (place_below vars c.self.invariant.0 c.args.var h) in
    subst (λ (list : List ℕ). c.get.result.now < length list) c.self.view_is low
