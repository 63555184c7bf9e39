-- The graph of a diagram is a graph.
use Rattle.std.proofs.Common.{◌≡◌, ⊎_elim, ℕ, zero, suc, ◌+◌, ◌-◌, ◌<◌, ◌≤◌, Bool, true, false, cond, not, List, [], ◌∷◌, map, length, slice_get, slice_index, Option, Some, None, refl, ap, sym, ◌∙◌, arith, eqb, ltb}
use Rattle.std.specs.List.{list_all, list_any, cons_option}
use Rattle.std.proofs.lemmas.Bool.{cases_lt, eq-eqb, eqb-true, ne_eqb, ltb-true, true≢false, false≢true, or_left, or_right, or_cases, or_from, and_parts, and_from, false_from_ne_true}
use Rattle.domains.specs.Names.{is_same, are_distinct}
use Rattle.transition_table.specs.declared.machine.Machine.{Machine}
use Rattle.transition_table.specs.NetworkFacts.{has, are_different}
use Rattle.domains.specs.Orders.{place}
use Rattle.decision_diagram.specs.Diagrams.{Node, Diagrams, inner_at, AreReduced}
use Rattle.sgraph.specs.declared.vertex.Vertex.{Vertex}
use Rattle.sgraph.specs.declared.vertex.Vertex.TheVariants.{Begin, Test, Assign, End}
use Rattle.sgraph.specs.Graphs.{IsPath, item_of, items, rises, key_of, varies, Ordered, Reduced, GoesOn}
use Rattle.sgraph.specs.Building.{code_there, nodes_left, number_in, vertex_in, graph_of}
use Rattle.sgraph.specs.Facts.{assigned_by, assigned, IsGraph}
use Rattle.domains.proofs.FittingCodes.{size_some}
use Rattle.domains.proofs.Names.{same_self}

-- ---- no path assigns a result twice
above : (order : List ℕ) (p : ℕ) (xs : List ℕ) → rises (p ∷ map (place order) xs) ≡ true → (x : ℕ)
    → place order x ≤ p → has xs x ≡ false
above order p [] h x less = refl
above order p (y ∷ ys) h x less =
    let parts = and_parts (ltb p (place order y)) (rises (place order y ∷ map (place order) ys))
    h in
    let more = ltb-true p (place order y) parts.0 in
    or_from (eqb y x) (has ys x)
    (ne_eqb y x (λ same. let e = ap (place order) same in absurd (omega arith)))
    (above order (place order y) ys parts.1 x (omega arith))

pub rises_tail : (p : ℕ) (ys : List ℕ) → rises (p ∷ ys) ≡ true → rises ys ≡ true
rises_tail p [] h = refl
rises_tail p (y ∷ ys) h = (and_parts (ltb p y) (rises (y ∷ ys)) h).1

different : (order xs : List ℕ) → rises (map (place order) xs) ≡ true → are_different xs ≡ true
different order [] h = refl
different order (x ∷ xs) h =
    and_from (not (has xs x)) (are_different xs)
    (ap not (above order (place order x) xs h x (omega arith)))
    (different order xs (rises_tail (place order x) (map (place order) xs) h))

member_one : (n : ℕ) (o : Option Vertex) (is bs : List ℕ) (y : ℕ)
    → (has bs y ≡ true → has is (n + y) ≡ true) → has (cons_option (assigned_by o) bs) y ≡ true
    → has (cons_option (item_of n o) is) (n + y) ≡ true
member_one n None is bs y rest h = rest h
member_one n (Some (Begin next)) is bs y rest h = rest h
member_one n (Some (Test var kids)) is bs y rest h =
    or_right (eqb var (n + y)) (has is (n + y)) (rest h)
member_one n (Some (Assign result code next)) is bs y rest h =
    ⊎_elim
    (λ own. or_left (eqb (n + result) (n + y)) (has is (n + y))
    (eq-eqb (n + result) (n + y) (ap (λ (i : ℕ). n + i) (eqb-true result y own))))
    (λ other. or_right (eqb (n + result) (n + y)) (has is (n + y)) (rest other))
    (or_cases (eqb result y) (has bs y) h)
member_one n (Some End) is bs y rest h = rest h

member : (n : ℕ) (g : List Vertex) (path : List ℕ) (y : ℕ) → has (assigned g path) y ≡ true
    → has (items n g path) (n + y) ≡ true
member n g [] y h = absurd (false≢true h)
member n g (k ∷ path) y h =
    member_one n (slice_get g k) (items n g path) (assigned g path) y (member n g path y) h

fewer_one : (n : ℕ) (o : Option Vertex) (is bs : List ℕ)
    → ((y : ℕ) → has bs y ≡ true → has is (n + y) ≡ true)
    → (are_different is ≡ true → are_different bs ≡ true)
    → are_different (cons_option (item_of n o) is) ≡ true
    → are_different (cons_option (assigned_by o) bs) ≡ true
fewer_one n None is bs inside rest h = rest h
fewer_one n (Some (Begin next)) is bs inside rest h = rest h
fewer_one n (Some (Test var kids)) is bs inside rest h =
    rest (and_parts (not (has is var)) (are_different is) h).1
fewer_one n (Some (Assign result code next)) is bs inside rest h =
    let parts = and_parts (not (has is (n + result))) (are_different is) h in
    and_from (not (has bs result)) (are_different bs)
    (ap not (false_from_ne_true (has bs result)
    (λ on. true≢false (sym parts.0 ∙ ap not (inside result on)))))
    (rest parts.1)
fewer_one n (Some End) is bs inside rest h = rest h

fewer : (n : ℕ) (g : List Vertex) (path : List ℕ) → are_different (items n g path) ≡ true
    → are_different (assigned g path) ≡ true
fewer n g [] h = refl
fewer n g (k ∷ path) h =
    fewer_one n (slice_get g k) (items n g path) (assigned g path)
    (λ y there. member n g path y there) (fewer n g path) h

pub once_assigned : (n : ℕ) (order : List ℕ) (g : List Vertex) → Ordered n order g → (path : List ℕ)
    → IsPath g path → are_different (assigned g path) ≡ true
once_assigned n order g ordered path is =
    fewer n g path (different order (items n g path) (ordered path is))

-- ---- no two vertices are equal

any_at : (a : List ℕ) (xs : List (List ℕ)) (j : ℕ) → slice_get xs j ≡ Some a
    → list_any (is_same a) xs ≡ true
any_at a [] j e = cc
any_at a (x ∷ xs) zero e = let f : x ≡ a = cc in
    or_left (is_same a x) (list_any (is_same a) xs) (ap (is_same a) f ∙ same_self a)
any_at a (x ∷ xs) (suc j) e = or_right (is_same a x) (list_any (is_same a) xs) (any_at a xs j e)

once_at : (xs : List (List ℕ)) (a : List ℕ) (i j : ℕ) → are_distinct xs ≡ true
    → slice_get xs i ≡ Some a → slice_get xs j ≡ Some a → i < j → ⊥
once_at [] a i j h p q less = cc
once_at (x ∷ xs) a i zero h p q less = omega arith
once_at (x ∷ xs) a zero (suc j) h p q less =
    let f : x ≡ a = cc in
    let parts = and_parts (not (list_any (is_same x) xs)) (are_distinct xs) h in
    true≢false (sym parts.0 ∙ ap not (any_at x xs j (q ∙ ap (λ (y : List ℕ). Some y) (sym f))))
once_at (x ∷ xs) a (suc i) (suc j) h p q less =
    once_at xs a i j (and_parts (not (list_any (is_same x) xs)) (are_distinct xs) h).1 p q
    (omega arith)

keyed : (g : List Vertex) (k : ℕ) (v : Vertex) → slice_get g k ≡ Some v
    → slice_get (map key_of g) k ≡ Some (key_of v)
keyed [] k v e = cc
keyed (w ∷ g) zero v e = let f : w ≡ v = cc in ap (λ (u : Vertex). Some (key_of u)) f
keyed (w ∷ g) (suc k) v e = keyed g k v e

-- ---- tests have children

pub long_map : (f : ℕ → ℕ) (xs : List ℕ) → length (map f xs) ≡ length xs
long_map f [] = refl
long_map f (x ∷ xs) = ap suc (long_map f xs)

got_back : (h : ℕ → Vertex) (xs : List ℕ) (i : ℕ) (v : Vertex) → slice_get (map h xs) i ≡ Some v
    → (x : ℕ) × (v ≡ h x)
got_back h [] i v is = cc
got_back h (x ∷ xs) zero v is = (x, cc)
got_back h (x ∷ xs) (suc i) v is = got_back h xs i v is

test_kids : (s : Diagrams) (n : ℕ) (number : ℕ → ℕ) → AreReduced s → (x var : ℕ) (kids : List ℕ)
    → Test var kids ≡ vertex_in n number (inner_at s.nodes x) → 0 < length kids
test_kids s n number ok x var kids e = go (inner_at s.nodes x) refl e
  where
    size : (node : Node) → inner_at s.nodes x ≡ Some node → 0 < length node.kids
    size node is =
        let good = ok.nodes x node is in
        let long = good.kids in
        let some = size_some s.sizes node.var ok.sizes good.var in
        omega arith

    either : (node : Node) → inner_at s.nodes x ≡ Some node → (b : Bool)
        → Test var kids ≡ cond b (Test node.var (map number node.kids))
        (Assign (node.var - n) (code_there node.kids)
        (number (slice_index node.kids (code_there node.kids)))) → 0 < length kids
    either node is true f =
        let same : kids ≡ map number node.kids = cc in
        let long : length kids ≡ length (map number node.kids) =
        ap (λ (xs : List ℕ). length xs) same in
        let l = long_map number node.kids in
        let some = size node is in
        omega arith
    either node is false f = cc

    go : (o : Option Node) → inner_at s.nodes x ≡ o → Test var kids ≡ vertex_in n number o
        → 0 < length kids
    go None is f = cc
    go (Some node) is f = either node is (ltb node.var n) f

pub there_is : (vs : List Vertex) (n : ℕ) → n < length vs → (v : Vertex) × (slice_get vs n ≡ Some v)
there_is [] n low = absurd (omega arith)
there_is (v ∷ vs) zero low = (v, refl)
there_is (v ∷ vs) (suc n) low = there_is vs n (omega arith)

there_end : (vs : List Vertex) (n : ℕ) (v : Vertex) → slice_get vs n ≡ Some v → v ≡ End
    → slice_get vs n ≡ Some End
there_end vs n v is e = is ∙ ap (λ (w : Vertex). Some w) e

module _ (m : Machine) (s : Diagrams) (root : ℕ) (order : List ℕ) (ok : AreReduced s)
    (on : GoesOn (graph_of m s root)) (ordered : Ordered (length m.vars) order (graph_of m s root))
    (reduced : Reduced (graph_of m s root)) where
  some_kid : (k var : ℕ) (kids : List ℕ) → slice_get (graph_of m s root) k ≡ Some (Test var kids)
      → 0 < length kids
  some_kid zero var kids is = absurd (let e : Some (Begin 1) ≡ Some (Test var kids) = is in cc)
  some_kid (suc i) var kids is =
      let left = nodes_left s (length m.vars) root in
      let back = got_back (λ k. vertex_in (length m.vars) (number_in left) (inner_at s.nodes k))
      left i (Test var kids) is in
      test_kids s (length m.vars) (number_in left) ok back.0 var kids back.1

  last_end : (k : ℕ) (v : Vertex) → slice_get (graph_of m s root) k ≡ Some v
      → k + 1 ≡ length (graph_of m s root) → v ≡ End
  last_end k (Begin next) is last =
      absurd (let e = on.only k next is in
      let one = on.within 0 (Begin 1) 0 on.begin (omega arith) in omega arith)
  last_end k (Test var kids) is last =
      absurd (
      let some = some_kid k var kids is in
      let a = on.above k (Test var kids) 0 is some in
      let b = on.within k (Test var kids) 0 is some in
      omega arith)
  last_end k (Assign result code next) is last =
      absurd (
      let a : k < next = on.above k (Assign result code next) 0 is (omega arith) in
      let b : next < length (graph_of m s root) =
      on.within k (Assign result code next) 0 is (omega arith) in
      omega arith)
  last_end k End is last = refl

  below : (vs : List Vertex) (n : ℕ) (v : Vertex) → slice_get vs n ≡ Some v → n < length vs
  below [] n v e = cc
  below (w ∷ vs) zero v e = omega arith
  below (w ∷ vs) (suc n) v e = let r = below vs n v e in omega arith

  only_last : (k : ℕ) → slice_get (graph_of m s root) k ≡ Some End
      → k + 1 ≡ length (graph_of m s root)
  only_last k is =
      let g = graph_of m s root in
      let low = below g k End is in
      let last : ℕ = length g - 1 in
      let e : last + 1 ≡ length g = omega arith in
      let v = there_is g last (omega arith) in
      let end : slice_get g last ≡ Some End = there_end g last v.0 v.1 (last_end last v.0 v.1 e) in
      let keys = (and_parts (are_distinct (map key_of g)) (list_all varies g) reduced).0 in
      ⊎_elim
      (λ before. absurd
      (once_at (map key_of g) (key_of End) k last keys (keyed g k End is) (keyed g last End end)
      before))
      (λ after. omega arith)
      (cases_lt k last)

  pub is_graph : IsGraph (graph_of m s root)
  is_graph = record {
    begin = (1, on.begin);
    only_begin = on.only;
    end = λ k e. let v = there_is (graph_of m s root) k (omega arith) in
        there_end (graph_of m s root) k v.0 v.1 (last_end k v.0 v.1 e);
    only_end = only_last;
    above = on.above;
    within = on.within;
    some_kid = some_kid;
    assigns_once = once_assigned (length m.vars) order (graph_of m s root) ordered;
  }
