-- Depths of vertices: each child of a vertex of a machine's graph stands later in the order.
use Rattle.std.proofs.Common.{◌≡◌, ℕ, ◌+◌, ◌<◌, ◌≤◌, true, ◌&&◌, ltb, List, [], ◌∷◌, map, length, slice_get, slice_index, Option, Some, refl, ap, sym, subst, ◌∙◌, arith}
use Rattle.std.specs.Prelude.{Contains}
use Rattle.std.specs.List.{cons_option}
use Rattle.std.proofs.lemmas.Bool.{and_parts, ltb-true}
use Rattle.domains.specs.Orders.{place}
use Rattle.domains.proofs.Places.{place_below, at_place}
use Rattle.transition_table.specs.declared.machine.Machine.{Machine}
use Rattle.transition_table.specs.Orders.{Allowed}
use Rattle.sgraph.specs.declared.vertex.Vertex.{Vertex}
use Rattle.sgraph.specs.declared.vertex.Vertex.TheVariants.{Begin, Test, Assign, End}
use Rattle.sgraph.specs.Facts.{IsGraph}
use Rattle.sgraph.specs.Graphs.{kids_of, kids_in, kids_at, item_of, rises, depth}
use Rattle.sgraph.specs.Reactions.{IsGraphOf}
use Rattle.sgraph.proofs.IsGraph.{there_is}
use Rattle.sgraph_opt.specs.Smaller.{NoDefaults}
use Rattle.sgraph_opt.proofs.WalksFrom.{child}
use Rattle.polis_base.proofs.Places.{contains_at}
use Rattle.transition_table.proofs.MachineCounts.{order_length}

-- a graph of a machine in an allowed order, without assignments of code 0
pub record Placed (m : Machine) (order : List ℕ) (g : List Vertex) : Type 0 where
  pub graph : IsGraph g
  pub of_machine : IsGraphOf m order g
  pub allowed : Allowed m order
  pub without : NoDefaults g

-- each variable and result has a place in the order
pub item_place : (m : Machine) (order : List ℕ) → Allowed m order → (x : ℕ)
    → x < length m.vars + length m.results → place order x < length order
item_place m order allowed x low =
    let long = order_length m order allowed in
    place_below order allowed.permutation x (omega (arith, long, low))

-- and of its own
pub same_item : (m : Machine) (order : List ℕ) → Allowed m order → (x y : ℕ)
    → x < length m.vars + length m.results → y < length m.vars + length m.results
    → place order x ≡ place order y → x ≡ y
same_item m order allowed x y low_x low_y same =
    sym (at_place order x (item_place m order allowed x low_x))
    ∙ ap (slice_index order) same
    ∙ at_place order y (item_place m order allowed y low_y)

-- the end is deepest
pub deepest : (m : Machine) (order : List ℕ) (g : List Vertex) → Placed m order g → (k : ℕ)
    (v : Vertex) → slice_get g k ≡ Some v
    → depth (length m.vars) order (Some v) ≤ length order + 1
deepest m order g p k (Begin next) is = omega arith
deepest m order g p k (Test var kids) is =
    let low : var < length m.vars = (p.of_machine.fits_machine.tests k var kids is).0 in
    let here = item_place m order p.allowed var (omega arith) in
    omega arith
deepest m order g p k (Assign result code next) is =
    let low = p.of_machine.fits_machine.assigns k result code next is in
    let here = item_place m order p.allowed (length m.vars + result) (omega arith) in
    omega arith
deepest m order g p k End is = omega arith

above_end : (m : Machine) (order : List ℕ) (g : List Vertex) → Placed m order g → (k i : ℕ)
    (v : Vertex) → slice_get g k ≡ Some v → i < length (kids_of v)
    → depth (length m.vars) order (Some v) < length order + 1
above_end m order g p k i (Begin next) is inside = omega arith
above_end m order g p k i (Test var kids) is inside =
    let low : var < length m.vars = (p.of_machine.fits_machine.tests k var kids is).0 in
    let here = item_place m order p.allowed var (omega arith) in
    omega arith
above_end m order g p k i (Assign result code next) is inside =
    let low = p.of_machine.fits_machine.assigns k result code next is in
    let here = item_place m order p.allowed (length m.vars + result) (omega arith) in
    omega arith
above_end m order g p k i End is inside = absurd (omega arith)

first_less : (a b : ℕ) → (ltb a b && true) ≡ true → a < b
first_less a b h = ltb-true a b (and_parts (ltb a b) true h).0

-- two vertices of which the items rise
one_deeper : (n : ℕ) (order : List ℕ) (v w : Vertex)
    → rises (map (place order) (cons_option (item_of n (Some v))
    (cons_option (item_of n (Some w)) []))) ≡ true
    → ((next : ℕ) → w ≡ Begin next → ⊥) → depth n order (Some v) < length order + 1
    → depth n order (Some v) < depth n order (Some w)
one_deeper n order v (Begin next) up other low = absurd (other next refl)
one_deeper n order v End up other low = low
one_deeper n order (Begin next) (Test var kids) up other low = omega arith
one_deeper n order (Test x xs) (Test var kids) up other low =
    let less = first_less (place order x) (place order var) up in omega arith
one_deeper n order (Assign y c next) (Test var kids) up other low =
    let less = first_less (place order (n + y)) (place order var) up in omega arith
one_deeper n order End (Test var kids) up other low = absurd (omega arith)
one_deeper n order (Begin next) (Assign result code after) up other low = omega arith
one_deeper n order (Test x xs) (Assign result code after) up other low =
    let less = first_less (place order x) (place order (n + result)) up in omega arith
one_deeper n order (Assign y c next) (Assign result code after) up other low =
    let less = first_less (place order (n + y)) (place order (n + result)) up in omega arith
one_deeper n order End (Assign result code after) up other low = absurd (omega arith)

pub child_deeper : (m : Machine) (order : List ℕ) (g : List Vertex) → Placed m order g → (k i : ℕ)
    (v : Vertex) → slice_get g k ≡ Some v → i < length (kids_of v)
    → depth (length m.vars) order (Some v) < depth (length m.vars) order (slice_get g (child v i))
child_deeper m order g p k i v is inside =
    let n = length m.vars in
    let j : ℕ = child v i in
    let up : k < j = p.graph.above k v i is inside in
    let there = there_is g j (p.graph.within k v i is inside) in
    let w = there.0 in
    let here : Contains (kids_at g k) j =
    subst (λ (ks : List ℕ). Contains ks j) (sym (ap kids_in is)) (contains_at (kids_of v) i inside) in
    let path = p.of_machine.ordered (k ∷ j ∷ []) (here, tt) in
    let rise : rises (map (place order) (cons_option (item_of n (Some v))
    (cons_option (item_of n (Some w)) []))) ≡ true =
    subst (λ (o : Option Vertex). rises (map (place order) (cons_option (item_of n o)
    (cons_option (item_of n (Some w)) []))) ≡ true) is
    (subst (λ (o : Option Vertex). rises (map (place order)
    (cons_option (item_of n (slice_get g k)) (cons_option (item_of n o) []))) ≡ true) there.1
    path) in
    let other : (next : ℕ) → w ≡ Begin next → ⊥ = λ next same.
    let first = p.graph.only_begin j next (there.1 ∙ ap (λ (u : Vertex). Some u) same) in
    omega arith in
    let less = one_deeper n order v w rise other (above_end m order g p k i v is inside) in
    subst (λ (o : Option Vertex). depth n order (Some v) < depth n order o) (sym there.1) less
