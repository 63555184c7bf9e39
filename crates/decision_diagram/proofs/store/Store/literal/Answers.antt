use Rattle.std.proofs.Common.{◌≡◌, ◌∙◌, ◌==◌, ℕ, List, length, slice_index, slice_get, Some, sym, ap, subst, arith, IsTrue}
use Rattle.std.specs.Int.{bit_at}
use Rattle.domains.specs.Tables.{fits}
use Rattle.decision_diagram.specs.Constants.{constant_node}
use Rattle.decision_diagram.specs.Diagrams.{Diagrams, AreReduced, level_of, choice}
use Rattle.decision_diagram.proofs.Fits.{size_few}
use Rattle.decision_diagram.proofs.ListItems.{read}
use Rattle.decision_diagram.proofs.Meanings.{level_constant, means_as, literal_choice}
use Rattle.decision_diagram.proofs.store.Store.literal.Goals as goal
use Rattle.domains.proofs.Places.{place_below}

-- what was read is the size of the variable
size_read : (s : Diagrams) (sizes : List ℕ) (var at size : ℕ) → sizes ≡ s.sizes → at ≡ var
    → slice_get sizes at ≡ Some size → slice_index s.sizes var ≡ size
size_read s sizes var at size same at_is is =
    subst (λ (xs : List ℕ). slice_index xs var ≡ size) same
    (subst (λ (k : ℕ). slice_index sizes k ≡ size) at_is (read sizes at size 0 is))

pub literal_kids-requires : goal.literal_kids-requires
literal_kids-requires c =
    let ok = subst (λ (d : Diagrams). AreReduced d) c.self.view_is c.self.invariant.reduced in
    let e = size_read c.args.self.now c.self.inside.vars c.args.var c.from.result
    c.get-size.result.now (ap (λ (d : Diagrams). d.sizes) c.self.view_is) c.from.ensures
    c.get-size.ensures in
    let few = size_few c.args.self.now.sizes ok.sizes c.args.var c.requires.var in
    omega arith

pub node-requires-clause-kids : goal.node-requires-clause-kids
node-requires-clause-kids c =
    let e = size_read c.args.self.now c.self.inside.vars c.args.var c.from.result
    c.get-size.result.now (ap (λ (d : Diagrams). d.sizes) c.self.view_is) c.from.ensures
    c.get-size.ensures in
    ap (length {A = ℕ}) c.deref.ensures.value ∙ c.in_ok-kids.ensures.length ∙ sym e

pub node-requires-clause-later : goal.node-requires-clause-later
node-requires-clause-later c = λ code h.
    let s = c.args.self.now in
    let ok = subst (λ (d : Diagrams). AreReduced d) c.self.view_is c.self.invariant.reduced in
    let long = ap (length {A = ℕ}) c.deref.ensures.value ∙ c.in_ok-kids.ensures.length in
    let is : slice_index c.deref.result.now code ≡ constant_node (bit_at c.args.codes code == 1) =
    ap (λ (xs : List ℕ). slice_index xs code) c.deref.ensures.value
    ∙ c.in_ok-kids.ensures.kids code (omega arith) in
    let level = ap (level_of s) is ∙ level_constant s (bit_at c.args.codes code == 1) in
    let lengths = ok.lengths in
    let var = c.requires.var in
    let below = place_below s.order ok.order c.args.var (omega arith) in
    omega arith

pub returns-clause-value : goal.returns-clause-value
returns-clause-value c =
    let s = c.args.self.now in
    let e = size_read s c.self.inside.vars c.args.var c.from.result c.get-size.result.now
    (ap (λ (d : Diagrams). d.sizes) c.self.view_is) c.from.ensures c.get-size.ensures in
    let long : length c.deref.result.now ≡ slice_index s.sizes c.args.var =
    ap (length {A = ℕ}) c.deref.ensures.value ∙ c.in_ok-kids.ensures.length ∙ sym e in
    means_as c.node.new.self (choice s c.args.var c.deref.result.now)
    (λ at. bit_at c.args.codes (slice_index at c.args.var) == 1) c.node.result
    c.node.ensures.value
    (λ codes fit. literal_choice s c.args.var c.args.codes c.deref.result.now codes
    (subst (λ (xs : List ℕ). IsTrue (fits xs codes)) c.node.ensures.kept.sizes fit)
    c.requires.var long
    (λ code h. ap (λ (xs : List ℕ). slice_index xs code) c.deref.ensures.value
    ∙ c.in_ok-kids.ensures.kids code (omega arith)))
