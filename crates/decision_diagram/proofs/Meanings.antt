-- What the nodes that the store's calls answer mean.
use Rattle.std.proofs.Common.{◌≡◌, ⊎_elim, ℕ, ◌+◌, ◌<◌, ◌≤◌, Bool, true, false, ◌==◌, eqb, List, [], ◌∷◌, length, slice_index, Option, Some, None, Result, Ok, Err, IfOk, IsTrue, sym, ap, ◌∙◌, subst, arith}
use Rattle.std.specs.Int.{bit_at}
use Rattle.std.proofs.lemmas.Bool.{cases_Bool, cases_lt, cond-true, cond-false}
use Rattle.domains.specs.Tables.{fits}
use Rattle.decision_diagram.specs.declared.node.Shape.TheVariants.{Inner}
use Rattle.decision_diagram.specs.Constants.{constant_node}
use Rattle.domains.specs.Orders.{place}
use Rattle.decision_diagram.specs.Diagrams.{Diagrams, Node, inner_at, shape_in, shape_of, level_in, level_of, IsNode, value_of, AreReduced, Means, choice}
use Rattle.decision_diagram.specs.inner.Diagrams.{IsNew}
use Rattle.decision_diagram.proofs.Fits.{fits_at, size_some}
use Rattle.decision_diagram.proofs.Nodes.{inner_low, inner_within, cases_inner}
use Rattle.decision_diagram.proofs.Values.{level_none, level_some, item_at_level, value_none, value_inner}
use Rattle.domains.proofs.Places.{place_below, at_place}

pub value_constant : (s : Diagrams) (b : Bool) (n : ℕ) (codes : List ℕ) → n ≡ constant_node b
    → value_of s n codes ≡ b
value_constant s false n codes is =
    value_none s n codes (inner_low s.nodes n (omega arith)) ∙ ap (λ (m : ℕ). eqb m 1) is
value_constant s true n codes is =
    value_none s n codes (inner_low s.nodes n (omega arith)) ∙ ap (λ (m : ℕ). eqb m 1) is

-- a child at the code of the variable has the node's value
pub value_child : (s : Diagrams) → AreReduced s
    → (n : ℕ) (node : Node) (kid code var : ℕ) (codes : List ℕ) → inner_at s.nodes n ≡ Some node
    → code < length node.kids → slice_index node.kids code ≡ kid → shape_of s n ≡ Inner var
    → slice_index codes var ≡ code → value_of s n codes ≡ value_of s kid codes
value_child s ok n node kid code var codes is low at shape code_is =
    let e : Inner node.var ≡ Inner var = sym (ap (shape_in n) is) ∙ shape in
    let same : node.var ≡ var = cc in
    let code_at : slice_index codes node.var ≡ code = ap (slice_index codes) same ∙ code_is in
    value_inner s ok n node codes is (subst (λ (k : ℕ). k < length node.kids) (sym code_at) low)
    ∙ ap (λ (m : ℕ). value_of s m codes) (ap (slice_index node.kids) code_at ∙ at)

-- where all children are the same, it is the one
pub means_only : (s : Diagrams) (var : ℕ) (kids : List ℕ) (kid : ℕ) → var < length s.sizes
    → length kids ≡ slice_index s.sizes var
    → ((code : ℕ) → code < length kids → IsNode s (slice_index kids code))
    → ((code : ℕ) → code < length kids → slice_index kids code ≡ kid) → 0 < length kids
    → Means s kid (choice s var kids)
means_only s var kids kid below long nodes same some = record {
  node = subst (IsNode s) (same 0 some) (nodes 0 some);
  value = λ codes fit.
      let low = fits_at s.sizes codes fit var below in
      ap (λ (n : ℕ). value_of s n codes) (sym (same (slice_index codes var) (omega arith)));
}

-- an inner node with these children
pub means_inner : (s : Diagrams) → AreReduced s → (n : ℕ) (node : Node)
    → inner_at s.nodes n ≡ Some node → Means s n (choice s node.var node.kids)
means_inner s ok n node is =
    let good = ok.nodes n node is in
    record {
      node = (inner_within s.nodes n node is).1;
      value = λ codes fit.
          let low = fits_at s.sizes codes fit node.var good.var in
          let long = good.kids in
          value_inner s ok n node codes is (omega arith);
    }

-- the inner node that the index has
pub means_found : (s : Diagrams) → AreReduced s → (var : ℕ) (kids : List ℕ) (n : ℕ)
    → (node : Node) × (inner_at s.nodes n ≡ Some node) × (node.var ≡ var) × (node.kids ≡ kids)
    → Means s n (choice s var kids)
means_found s ok var kids n w =
    subst (λ (v : ℕ). Means s n (choice s v kids)) w.2
    (subst (λ (xs : List ℕ). Means s n (choice s w.0.var xs)) w.3 (means_inner s ok n w.0 w.1))

pub level_found : (s : Diagrams) (var : ℕ) (kids : List ℕ) (n : ℕ)
    → (node : Node) × (inner_at s.nodes n ≡ Some node) × (node.var ≡ var) × (node.kids ≡ kids)
    → place s.order var ≤ level_of s n
level_found s var kids n w = let e = level_some s n w.0 w.1 in let f = ap (place s.order) w.2 in
    omega arith

-- a node that isn't there, and whose children differ, may be made
pub new_node : (s : Diagrams) → AreReduced s
    → (var : ℕ) (kids : List ℕ)
    → ((n : ℕ) (other : Node) → inner_at s.nodes n ≡ Some other → other.var ≡ var
    → other.kids ≡ kids → ⊥) → var < length s.sizes
    → length kids ≡ slice_index s.sizes var
    → ((code : ℕ) → code < length kids → IsNode s (slice_index kids code))
    → ((code : ℕ) → code < length kids → place s.order var < level_of s (slice_index kids code))
    → ((kid : ℕ) → 0 < length kids → ((code : ℕ) → code < length kids → slice_index kids code ≡ kid)
    → ⊥) → IsNew s (record { var = var; kids = kids })
new_node s ok var kids fresh below long nodes later varied = record {
  var = below;
  kids = long;
  nodes = nodes;
  later = later;
  varied = λ kid same. let some = size_some s.sizes ok.sizes var below in
      varied kid (omega arith) same;
  fresh = fresh;
}

-- ---- levels
place_within : (list : List ℕ) (v : ℕ) → place list v ≤ length list
place_within [] v = omega arith
place_within (x ∷ xs) v =
    let rest = place_within xs v in
    ⊎_elim
    (λ same. let e = cond-true (eqb x v) 0 (place xs v + 1) same in omega arith)
    (λ other. let e = cond-false (eqb x v) 0 (place xs v + 1) other in omega arith)
    (cases_Bool (eqb x v))

level_in_within : (order : List ℕ) (o : Option Node) → level_in order o ≤ length order
level_in_within order None = omega arith
level_in_within order (Some node) = place_within order node.var

pub level_at_most : (s : Diagrams) (n : ℕ) → level_of s n ≤ length s.order
level_at_most s n = level_in_within s.order (inner_at s.nodes n)

pub level_constant : (s : Diagrams) (b : Bool) → level_of s (constant_node b) ≡ length s.order
level_constant s false = level_none s 0 (inner_low s.nodes 0 (omega arith))
level_constant s true = level_none s 1 (inner_low s.nodes 1 (omega arith))

-- ---- literals
-- a meaning as another function that agrees with it
pub means_as : {E : Type 0} (s : Diagrams) (f g : List ℕ → Bool) (r : Result ℕ E)
    → IfOk r (λ n. Means s n f)
    → ((codes : List ℕ) → IsTrue (fits s.sizes codes) → f codes ≡ g codes)
    → IfOk r (λ n. Means s n g)
means_as s f g (Ok n) means same =
    record { node = means.node; value = λ codes fit. means.value codes fit ∙ same codes fit }
means_as s f g (Err e) means same = tt

-- the children of a literal
pub literal_choice : (s : Diagrams) (var set : ℕ) (kids codes : List ℕ)
    → IsTrue (fits s.sizes codes) → var < length s.sizes → length kids ≡ slice_index s.sizes var
    → ((code : ℕ) → code < slice_index s.sizes var
    → slice_index kids code ≡ constant_node (bit_at set code == 1))
    → choice s var kids codes ≡ (bit_at set (slice_index codes var) == 1)
literal_choice s var set kids codes fit below long at =
    value_constant s (bit_at set (slice_index codes var) == 1)
    (slice_index kids (slice_index codes var)) codes
    (at (slice_index codes var) (fits_at s.sizes codes fit var below))

-- ---- the first of two variables
pub var_below : (s : Diagrams) → AreReduced s → (n : ℕ) (node : Node)
    → inner_at s.nodes n ≡ Some node → node.var < length s.order
var_below s ok n node is = let v = (ok.nodes n node is).var in let l = ok.lengths in omega arith

-- a node whose variable is another one, and not before it, is read later
pub later_other : (s : Diagrams) → AreReduced s → (n var : ℕ) → var < length s.sizes
    → place s.order var ≤ level_of s n → (shape_of s n ≡ Inner var → ⊥)
    → place s.order var < level_of s n
later_other s ok n var below first other =
    ⊎_elim
    (λ later. later)
    (λ here.
    let same : place s.order var ≡ level_of s n = omega arith in
    let lengths = ok.lengths in
    let low = place_below s.order ok.order var (omega arith) in
    ⊎_elim
    (λ none. let e = level_none s n none in absurd (omega arith))
    (λ some.
    let v : some.0.var ≡ var = sym (item_at_level s ok n some.0 some.1)
    ∙ ap (slice_index s.order) (sym same) ∙ at_place s.order var low in
    absurd (other (ap (shape_in n) some.1 ∙ ap Inner v)))
    (cases_inner s.nodes n))
    (cases_lt (place s.order var) (level_of s n))
