-- In one graph, vertices from which walks give the same codes are one.
use Rattle.std.proofs.Common.{◌≡◌, ℕ, zero, suc, ◌+◌, ◌<◌, ◌≤◌, true, not, List, [], ◌∷◌, map, length, slice_get, Some, refl, ap, sym, ◌∙◌, arith}
use Rattle.std.specs.List.{list_any, list_all}
use Rattle.std.proofs.lemmas.Bool.{and_parts, not-true, or_left, or_right, true≢false}
use Rattle.std.proofs.lemmas.List.{ext_get_or}
use Rattle.domains.specs.Names.{is_same, are_distinct}
use Rattle.domains.proofs.Names.{same_self}
use Rattle.transition_table.specs.declared.machine.Machine.{Machine}
use Rattle.sgraph.specs.declared.vertex.Vertex.{Vertex}
use Rattle.sgraph.specs.declared.vertex.Vertex.TheVariants.{Test, Assign, End}
use Rattle.sgraph.specs.Graphs.{key_of, kids_of, varies}
use Rattle.sgraph.proofs.IsGraph.{there_is}
use Rattle.sgraph_opt.proofs.Deeper.{OneForEach}
use Rattle.sgraph_opt.proofs.Depths.{Placed}
use Rattle.sgraph_opt.proofs.OneForm.{twins}
use Rattle.sgraph_opt.proofs.Twins.{Same, Twins}
use Rattle.sgraph_opt.proofs.WalksFrom.{child}

-- twins with the same children are equal
pub equal_twins : (m : Machine) (g h : List Vertex) (a b : Vertex) → Twins m g h a b
    → ((i j : ℕ) → i < length (kids_of a) → j < length (kids_of b)
    → Same m g h (child a i) (child b j) → child a i ≡ child b j) → a ≡ b
equal_twins m g h (Test v kids) (Test w others) t one =
    let long : length kids ≡ length others = t.1 in
    let all : kids ≡ others = ext_get_or 0 kids others long
    (λ i low. one i i low (omega (arith, low, long)) (t.2 i low)) in
    ap (λ (x : ℕ). Test x kids) t.0 ∙ ap (Test w) all
equal_twins m g h (Assign y c next) (Assign z d other) t one =
    let after : next ≡ other = one 0 0 (omega arith) (omega arith) t.2 in
    ap (λ (x : ℕ). Assign x c next) t.0
    ∙ ap (λ (x : ℕ). Assign z x next) t.1
    ∙ ap (Assign z d) after
equal_twins m g h End End t one = refl
equal_twins m g h a b t one = absurd t

-- a vertex stands once
has_key : (vs : List Vertex) (l : ℕ) (v : Vertex) → slice_get vs l ≡ Some v
    → list_any (is_same (key_of v)) (map key_of vs) ≡ true
has_key [] l v is = cc
has_key (w ∷ vs) zero v is =
    let e : w ≡ v = cc in
    or_left (is_same (key_of v) (key_of w)) (list_any (is_same (key_of v)) (map key_of vs))
    (ap (λ (u : Vertex). is_same (key_of v) (key_of u)) e ∙ same_self (key_of v))
has_key (w ∷ vs) (suc l) v is =
    or_right (is_same (key_of v) (key_of w)) (list_any (is_same (key_of v)) (map key_of vs))
    (has_key vs l v is)

never_after : (v w : Vertex) (vs : List Vertex) (l : ℕ) → are_distinct (map key_of (w ∷ vs)) ≡ true
    → w ≡ v → slice_get vs l ≡ Some v → ⊥
never_after v w vs l distinct e is =
    let parts = and_parts (not (list_any (is_same (key_of w)) (map key_of vs)))
    (are_distinct (map key_of vs)) distinct in
    let found = has_key vs l w (is ∙ ap (λ (u : Vertex). Some u) (sym e)) in
    true≢false (sym found ∙ not-true (list_any (is_same (key_of w)) (map key_of vs)) parts.0)

stands_once : (vs : List Vertex) (k l : ℕ) (v : Vertex) → are_distinct (map key_of vs) ≡ true
    → slice_get vs k ≡ Some v → slice_get vs l ≡ Some v → k ≡ l
stands_once [] k l v distinct at_k at_l = cc
stands_once (w ∷ vs) zero zero v distinct at_k at_l = refl
stands_once (w ∷ vs) zero (suc l) v distinct at_k at_l =
    absurd (never_after v w vs l distinct (let e : w ≡ v = cc in e) at_l)
stands_once (w ∷ vs) (suc k) zero v distinct at_k at_l =
    absurd (never_after v w vs k distinct (let e : w ≡ v = cc in e) at_k)
stands_once (w ∷ vs) (suc k) (suc l) v distinct at_k at_l =
    ap suc (stands_once vs k l v
    (and_parts (not (list_any (is_same (key_of w)) (map key_of vs)))
    (are_distinct (map key_of vs)) distinct).1 at_k at_l)

module _ (m : Machine) (order : List ℕ) (g : List Vertex) (p : Placed m order g) where
  abbrev OneBeyond : ℕ → Type 0
  OneBeyond left =
      (k l : ℕ) → length g ≤ k + left → length g ≤ l + left → k < length g → l < length g → 0 < k
      → 0 < l → Same m g g k l → k ≡ l

  one_kid : (left : ℕ) → OneBeyond left → (x y : ℕ) (u w : Vertex) → slice_get g x ≡ Some u
      → slice_get g y ≡ Some w → length g ≤ x + suc left → length g ≤ y + suc left → (i j : ℕ)
      → i < length (kids_of u) → j < length (kids_of w) → Same m g g (child u i) (child w j)
      → child u i ≡ child w j
  one_kid left one x y u w is_u is_w bound_x bound_y i j inside_u inside_w same =
      let up_x : x < child u i = p.graph.above x u i is_u inside_u in
      let up_y : y < child w j = p.graph.above y w j is_w inside_w in
      one (child u i) (child w j) (omega (arith, bound_x, up_x)) (omega (arith, bound_y, up_y))
      (p.graph.within x u i is_u inside_u) (p.graph.within y w j is_w inside_w)
      (omega (arith, up_x)) (omega (arith, up_y)) same

  one_beyond : (left : ℕ) → OneBeyond left
  one_beyond zero k l bound_k bound_l low_k low_l some_k some_l same = absurd (omega arith)
  one_beyond (suc left) k l bound_k bound_l low_k low_l some_k some_l same =
      let one = one_beyond left in
      let a = there_is g k low_k in
      let b = there_is g l low_l in
      let pair = twins m order g g p p k l a.0 b.0 a.1 b.1 some_k some_l
      (one_kid left one k k a.0 a.0 a.1 a.1 bound_k bound_k)
      (one_kid left one l l b.0 b.0 b.1 b.1 bound_l bound_l) same in
      let equal = equal_twins m g g a.0 b.0 pair
      (one_kid left one k l a.0 b.0 a.1 b.1 bound_k bound_l) in
      stands_once g k l a.0
      (and_parts (are_distinct (map key_of g)) (list_all varies g) p.of_machine.reduced).0 a.1
      (b.1 ∙ ap (λ (u : Vertex). Some u) (sym equal))

  pub one_vertex : (k l : ℕ) → k < length g → l < length g → 0 < k → 0 < l → Same m g g k l → k ≡ l
  one_vertex k l low_k low_l some_k some_l same =
      one_beyond (length g) k l (omega arith) (omega arith) low_k low_l some_k some_l same

  pub one_for_each : (k : ℕ) (v : Vertex) → slice_get g k ≡ Some v → OneForEach m g v
  one_for_each k v is i j low_i low_j same =
      let up_i : k < child v i = p.graph.above k v i is low_i in
      let up_j : k < child v j = p.graph.above k v j is low_j in
      one_vertex (child v i) (child v j) (p.graph.within k v i is low_i)
      (p.graph.within k v j is low_j) (omega (arith, up_i)) (omega (arith, up_j)) same
