-- The graph of a diagram is built, goes on, and is numbered.
use Rattle.std.proofs.Common.{◌≡◌, ◌≢◌, ◌⊎◌, inl, inr, ⊎_elim, ℕ, zero, suc, ◌+◌, ◌-◌, ◌<◌, ◌≤◌, Bool, true, cond, List, [], ◌∷◌, map, length, slice_get, slice_index, Option, Some, None, refl, ap, sym, subst, ◌∙◌, arith, eqb, ltb, length-append}
use Rattle.std.specs.Prelude.{Contains, slice_index_or}
use Rattle.std.proofs.lemmas.Bool.{cases_eq, cases_lt, cases_Bool, eq-eqb, ne_eqb, lt-ltb, le-ltb, true≢false}
use Rattle.std.proofs.lemmas.Grind.{same_number_lists}
use Rattle.polis_base.specs.Lists.{upto}
use Rattle.transition_table.specs.declared.machine.Machine.{Machine}
use Rattle.transition_table.specs.NetworkFacts.{has}
use Rattle.domains.specs.Orders.{place}
use Rattle.decision_diagram.specs.Diagrams.{Node, Diagrams, inner_at, IsNode, kids_of as kids_of_node, kids_in as kids_in_node}
use Rattle.decision_diagram.specs.Reached.{Walk, Reaches}
use Rattle.sgraph.specs.declared.vertex.Vertex.{Vertex}
use Rattle.sgraph.specs.declared.vertex.Vertex.TheVariants.{Begin, Test, Assign}
use Rattle.sgraph.specs.Graphs.{kids_of, kids_in, kids_at, each, left_after, Numbered, GoesOn}
use Rattle.sgraph.specs.Building.{code_there, next_in, next_nodes, nodes_left, number_in, vertex_in, graph_of}
use Rattle.sgraph.specs.Built.{Built}
use Rattle.sgraph.proofs.ByRows.{IsDiagramByRows}
use Rattle.decision_diagram.proofs.ByVariable.{index_map, index_upto}
use Rattle.sgraph.proofs.Below.{HasResults}
use Rattle.decision_diagram.specs.Leading.{OneCode}
use Rattle.sgraph.proofs.Decides.{one_code}
use Rattle.sgraph.proofs.BuiltReduced.{no_false_kid, root_true, reached_node}
use Rattle.decision_diagram.proofs.Distinct.{Every}
use Rattle.decision_diagram.proofs.Prefixes.{some_kid}
use Rattle.sgraph.proofs.LeftAfter.{After, Closed, visit_after, visit_new, in_place, has_at, place_at, closed_next, enough, enough_down, renamed, every_left}
use Rattle.decision_diagram.proofs.Nodes.{cases_inner, inner_low, none_low}
use Rattle.domains.proofs.Places.{at_place}
use Rattle.decision_diagram.proofs.AppendedLists.{reaches_child}
use Rattle.polis_base.proofs.Places.{length_map}
use Rattle.polis_base.proofs.UptoPlaces.{length_upto}

code_found : (kids : List ℕ) (c : ℕ) → c < length kids → slice_index kids c ≢ 0
    → (code_there kids < length kids) × (slice_index kids (code_there kids) ≢ 0)
code_found [] c low some = absurd (omega arith)
code_found (kid ∷ kids) zero low some =
    let off = ne_eqb kid 0 some in
    let e : code_there (kid ∷ kids) ≡ 0 = ap (λ (b : Bool). cond b (suc (code_there kids)) 0) off in
    (omega arith, λ z. some (sym (ap (slice_index (kid ∷ kids)) e) ∙ z))
code_found (kid ∷ kids) (suc c) low some =
    ⊎_elim
    (λ on.
    let e : code_there (kid ∷ kids) ≡ suc (code_there kids) =
    ap (λ (b : Bool). cond b (suc (code_there kids)) 0) on in
    let rest = code_found kids c (omega arith) some in
    (omega (arith, e, rest.0), λ z. rest.1 (sym (ap (slice_index (kid ∷ kids)) e) ∙ z)))
    (λ off.
    let e : code_there (kid ∷ kids) ≡ 0 =
    ap (λ (b : Bool). cond b (suc (code_there kids)) 0) off in (
      omega arith,
      λ z.
          true≢false (sym (eq-eqb kid 0 (sym (ap (slice_index (kid ∷ kids)) e) ∙ z)) ∙ off),
    ))
    (cases_Bool (eqb kid 0))

got_map : {X : Type 0} (h : ℕ → X) (xs : List ℕ) (i : ℕ) → i < length xs
    → slice_get (map h xs) i ≡ Some (h (slice_index xs i))
got_map h [] i low = absurd (omega arith)
got_map h (x ∷ xs) zero low = refl
got_map h (x ∷ xs) (suc i) low = got_map h xs i (omega arith)

got_back : {X : Type 0} (h : ℕ → X) (xs : List ℕ) (i : ℕ) (v : X) → slice_get (map h xs) i ≡ Some v
    → (i < length xs) × (v ≡ h (slice_index xs i))
got_back h [] i v is = cc
got_back h (x ∷ xs) zero v is = (omega arith, cc)
got_back h (x ∷ xs) (suc i) v is = let rest = got_back h xs i v is in
    (omega (arith, rest.0), rest.1)

kids_vertex : (n : ℕ) (number : ℕ → ℕ) (o : Option Node)
    → kids_of (vertex_in n number o) ≡ map number (next_in n o)
kids_vertex n number None = refl
kids_vertex n number (Some node) =
    ⊎_elim
    (λ on.
    ap (λ (b : Bool). kids_of
    (cond b (Test node.var (map number node.kids))
    (Assign (node.var - n) (code_there node.kids)
    (number (slice_index node.kids (code_there node.kids)))))) on
    ∙ sym (ap (λ (b : Bool). map number
    (cond b node.kids (slice_index node.kids (code_there node.kids) ∷ []))) on))
    (λ off.
    ap (λ (b : Bool). kids_of
    (cond b (Test node.var (map number node.kids))
    (Assign (node.var - n) (code_there node.kids)
    (number (slice_index node.kids (code_there node.kids)))))) off
    ∙ sym (ap (λ (b : Bool). map number
    (cond b node.kids (slice_index node.kids (code_there node.kids) ∷ []))) off))
    (cases_Bool (ltb node.var n))

no_begin : (n : ℕ) (number : ℕ → ℕ) (o : Option Node) (next : ℕ) → vertex_in n number o ≡ Begin next
    → ⊥
no_begin n number None next e = cc
no_begin n number (Some node) next e =
    ⊎_elim
    (λ on. let f : Test node.var (map number node.kids)
    ≡ Begin next = sym
    (ap (λ (b : Bool). cond b (Test node.var (map number node.kids))
    (Assign (node.var - n) (code_there node.kids)
    (number (slice_index node.kids (code_there node.kids))))) on) ∙ e in cc)
    (λ off. let f : Assign (node.var - n) (code_there node.kids)
    (number (slice_index node.kids (code_there node.kids))) ≡ Begin next =
    sym (ap (λ (b : Bool). cond b (Test node.var (map number node.kids))
    (Assign (node.var - n) (code_there node.kids)
    (number (slice_index node.kids (code_there node.kids))))) off) ∙ e in cc)
    (cases_Bool (ltb node.var n))

pub every_at : (P : ℕ → Type 0) (xs : List ℕ) (i : ℕ) → Every P xs → i < length xs
    → P (slice_index xs i)
every_at P [] i all low = absurd (omega arith)
every_at P (x ∷ xs) zero all low = all.0
every_at P (x ∷ xs) (suc i) all low = every_at P xs i all.1 (omega arith)

module _ (m : Machine) (s : Diagrams) (root : ℕ) (d : IsDiagramByRows m s root)
    (good : HasResults m) where
  abbrev next : ℕ → List ℕ
  next k = next_nodes s (length m.vars) k

  abbrev left : List ℕ
  left = nodes_left s (length m.vars) root

  abbrev number : ℕ → ℕ
  number = number_in left

  -- what follows on an inner node
  next_test : (k : ℕ) (node : Node) → inner_at s.nodes k ≡ Some node → node.var < length m.vars
      → next k ≡ node.kids
  next_test k node is low = ap (next_in (length m.vars)) is
      ∙ ap (λ (b : Bool). cond b node.kids (slice_index node.kids (code_there node.kids) ∷ []))
      (lt-ltb node.var (length m.vars) low)

  next_result : (k : ℕ) (node : Node) → inner_at s.nodes k ≡ Some node → length m.vars ≤ node.var
      → next k ≡ slice_index node.kids (code_there node.kids) ∷ []
  next_result k node is high = ap (next_in (length m.vars)) is
      ∙ ap (λ (b : Bool). cond b node.kids (slice_index node.kids (code_there node.kids) ∷ []))
      (le-ltb node.var (length m.vars) high)

  chosen : (k : ℕ) (node : Node) → inner_at s.nodes k ≡ Some node
      → (code_there node.kids < length node.kids)
      × (slice_index node.kids (code_there node.kids) ≢ 0)
  chosen k node is = let some = some_kid s d.reduced k node is in
      code_found node.kids some.0 some.1 some.2

  -- what follows is a child
  data Follows (k i : ℕ) : Type 0 where
    follows : (node : Node) (c : ℕ) → inner_at s.nodes k ≡ Some node → c < length node.kids
        → slice_index (next k) i ≡ slice_index node.kids c
        → ((node.var < length m.vars) ⊎ (slice_index node.kids c ≢ 0)) → Follows k i

  follows_of : (k i : ℕ) → i < length (next k) → Follows k i
  follows_of k i low =
      ⊎_elim
      (λ none. absurd (let e : length (next k)
      ≡ 0 = ap (λ (o : Option Node). length (next_in (length m.vars) o)) none in omega arith))
      (λ some.
      let node = some.0 in
      let is : inner_at s.nodes k ≡ Some node = some.1 in
      ⊎_elim
      (λ test.
      let e = next_test k node is test in
      let long : length (next k) ≡ length node.kids = ap (λ (xs : List ℕ). length xs) e in
      follows node i is (omega arith) (ap (λ (xs : List ℕ). slice_index xs i) e) (inl test))
      (λ result.
      let e = next_result k node is result in
      let long : length (next k) ≡ 1 = ap (λ (xs : List ℕ). length xs) e in
      let first : i ≡ 0 = omega arith in
      let one = chosen k node is in
      follows node (code_there node.kids) is one.0
      (ap (λ (xs : List ℕ). slice_index xs i) e
      ∙ ap (slice_index (slice_index node.kids (code_there node.kids) ∷ [])) first) (inr one.1))
      (cases_lt node.var (length m.vars)))
      (cases_inner s.nodes k)

  falls : (k i : ℕ) → i < length (next k) → slice_index (next k) i < k
  falls k i low = go (follows_of k i low)
    where
      go : Follows k i → slice_index (next k) i < k
      go (follows node c is inside e some) = let b : slice_index node.kids c < k =
          (d.reduced.nodes k node is).before c inside in omega arith

  abbrev Met : ℕ → Type 0
  Met k = Reaches s root k × (k ≢ 0)

  met_next : (k i : ℕ) → Met k → i < length (next k) → Met (slice_index (next k) i)
  met_next k i met low = go (follows_of k i low)
    where
      go : Follows k i → Reaches s root (slice_index (next k) i) × (slice_index (next k) i ≢ 0)
      go (follows node c is inside e some) =
          let there = reaches_child s root k node c met.0 is inside in
          let other : slice_index node.kids c ≢ 0 =
          ⊎_elim (λ test. no_false_kid m s root d good k node met.0 is test c inside) (λ h. h)
          some in
          (subst (Reaches s root) (sym e) there, λ z. other (sym e ∙ z))

  all_met : Every Met left
  all_met = every_left next Met met_next (suc root) [] root tt
      ((0, refl), root_true m s root d good)

  after : After next [] root left
  after = visit_after next falls (suc root) [] root (omega arith)

  closed : Closed next left
  closed = after.closed tt

  only_code : (k : ℕ) (node : Node) → Reaches s root k → inner_at s.nodes k ≡ Some node
      → length m.vars ≤ node.var → (c : ℕ) → c < length node.kids → slice_index node.kids c ≢ 0
      → c ≡ code_there node.kids
  only_code k node there is high c low some =
      let var : node.var < length s.sizes = (d.reduced.nodes k node is).var in
      let long : length s.sizes ≡ length m.vars + length m.results =
      ap (λ (xs : List ℕ). length xs) d.sizes ∙ length-append m.vars m.results in
      let y : ℕ = node.var - length m.vars in
      let e : node.var ≡ length m.vars + y = omega arith in
      let leads = good.below.led s root k d.reduced there in
      let code : OneCode node.kids =
      one_code m good.below s root k node y d is e (omega arith) leads.0 leads.1 leads.2 in
      let one = chosen k node is in
      sym (code.3 c low some) ∙ code.3 (code_there node.kids) one.0 one.1

  -- what is reached and isn't False is left
  walk_left : (steps n : ℕ) → Walk s root n steps → n ≢ 0 → has left n ≡ true
  walk_left zero n same some = subst (λ (k : ℕ). has left k ≡ true) same after.here
  walk_left (suc steps) n walk some =
      let k = walk.0 in
      ⊎_elim
      (λ none. absurd (nowhere (kids_of_node s k) (ap kids_in_node none) walk.2))
      (λ inner.
      let node = inner.0 in
      let is : inner_at s.nodes k ≡ Some node = inner.1 in
      let there : Contains node.kids n = rw (ap kids_in_node is) at (walk.2) in
      let c = there.0 in
      let low : c < length node.kids = there.1 in
      let kid : slice_index node.kids c ≡ n = default_too node.kids c n low ∙ there.2 in
      let not_false : k ≢ 0 = λ z. let none = inner_low s.nodes k (omega arith) in
      absurd (let e : None ≡ Some node = sym none ∙ is in cc) in
      let in_k = walk_left steps k walk.1 not_false in
      ⊎_elim
      (λ test.
      let e = next_test k node is test in
      let long : length (next k) ≡ length node.kids = ap (λ (xs : List ℕ). length xs) e in
      let step = closed_next next left k c closed in_k (omega arith) in
      let same : slice_index (next k) c ≡ n = ap (λ (xs : List ℕ). slice_index xs c) e ∙ kid in
      subst (λ (j : ℕ). has left j ≡ true) same step.0)
      (λ result.
      let e = next_result k node is result in
      let long : length (next k) ≡ 1 = ap (λ (xs : List ℕ). length xs) e in
      let one = only_code k node (steps, walk.1) is result c low (λ z. some (sym kid ∙ z)) in
      let step = closed_next next left k 0 closed in_k (omega arith) in
      let same : slice_index (next k) 0 ≡ n =
      ap (λ (xs : List ℕ). slice_index xs 0) e ∙ ap (slice_index node.kids) (sym one) ∙ kid in
      subst (λ (j : ℕ). has left j ≡ true) same step.0)
      (cases_lt node.var (length m.vars)))
      (cases_inner s.nodes k)
    where
      nowhere : (kids : List ℕ) → kids ≡ [] → Contains kids n → ⊥
      nowhere kids none there = let e : length kids ≡ 0 = ap (λ (xs : List ℕ). length xs) none in
          let low : there.0 < length kids = there.1 in omega arith

      default_too : (xs : List ℕ) (i d : ℕ) → i < length xs
          → slice_index xs i ≡ slice_index_or xs i d
      default_too [] i d low = absurd (omega arith)
      default_too (x ∷ xs) zero d low = refl
      default_too (x ∷ xs) (suc i) d low = default_too xs i d (omega arith)

  left_met : (n : ℕ) → Reaches s root n → n ≢ 0 → has left n ≡ true
  left_met n there some = walk_left there.0 n there.1 some

  -- ---- vertices
  vertex_of : ℕ → Vertex
  vertex_of k = vertex_in (length m.vars) number (inner_at s.nodes k)

  got_vertex : (n : ℕ) → has left n ≡ true
      → slice_get (graph_of m s root) (number n)
      ≡ Some (vertex_in (length m.vars) number (inner_at s.nodes n))
  got_vertex n in_left =
      let low = in_place next left n in_left in
      got_map (λ k. vertex_in (length m.vars) number (inner_at s.nodes k)) left (place left n) low
      ∙ ap (λ (k : ℕ). Some (vertex_in (length m.vars) number (inner_at s.nodes k)))
      (at_place left n low)

  root_first : number root ≡ 1
  root_first =
      let e : left ≡ root ∷ each (left_after root next) [] (next root) =
      visit_new next root [] root refl in
      ap (λ (xs : List ℕ). suc (place xs root)) e
      ∙ ap (λ (b : Bool). suc
      (cond b 0 (place (each (left_after root next) [] (next root)) root + 1)))
      (eq-eqb root root refl)

  -- True is reached
  true_left : (bound k : ℕ) → k < bound → has left k ≡ true → Reaches s root k × (k ≢ 0)
      → has left 1 ≡ true
  true_left zero k less in_k met = absurd (omega arith)
  true_left (suc bound) k less in_k met =
      ⊎_elim
      (λ none.
      let w = places_met k in_k in
      let low = none_low s.nodes k (node_met k met.0) none in
      let one : k ≡ 1 = ⊎_elim (λ z. absurd (met.1 z)) (λ nz. omega arith) (cases_eq k 0) in
      subst (λ (j : ℕ). has left j ≡ true) one in_k)
      (λ some.
      let some_next = next_there k some.0 some.1 in
      let step = closed_next next left k 0 closed in_k some_next in
      let lower = falls k 0 some_next in
      true_left bound (slice_index (next k) 0) (omega arith) step.0
      (met_next_too k 0 met some_next))
      (cases_inner s.nodes k)
    where
      places_met : (k : ℕ) → has left k ≡ true → place left k < length left
      places_met k in_k = in_place next left k in_k

      met_next_too : (k i : ℕ) → Reaches s root k × (k ≢ 0) → i < length (next k)
          → Reaches s root (slice_index (next k) i) × (slice_index (next k) i ≢ 0)
      met_next_too k i met low = met_next k i met low

      node_met : (k : ℕ) → Reaches s root k → IsNode s k
      node_met k there = reached_node m s root d k there

      next_there : (k : ℕ) (node : Node) → inner_at s.nodes k ≡ Some node → 0 < length (next k)
      next_there k node is =
          let one = chosen k node is in
          ⊎_elim
          (λ test. let e : length (next k) ≡ length node.kids = ap (λ (xs : List ℕ). length xs)
          (next_test k node is test) in let low : code_there node.kids < length node.kids =
          one.0 in omega arith)
          (λ result. let e : length (next k)
          ≡ 1 = ap (λ (xs : List ℕ). length xs) (next_result k node is result) in omega arith)
          (cases_lt node.var (length m.vars))

  one_left : has left 1 ≡ true
  one_left = true_left (suc root) root (omega arith) after.here
      ((0, refl), root_true m s root d good)

  same_node : (a b : ℕ) → has left a ≡ true → has left b ≡ true → number a ≡ number b → a ≡ b
  same_node a b in_a in_b e =
      let f : place left a ≡ place left b = omega arith in
      sym (at_place left a (in_place next left a in_a)) ∙ ap (slice_index left) f
      ∙ at_place left b (in_place next left b in_b)

  left_inner : (n : ℕ) (node : Node) → Reaches s root n → inner_at s.nodes n ≡ Some node
      → has left n ≡ true
  left_inner n node there is =
      left_met n there (λ z. let none = inner_low s.nodes n (omega arith) in
      absurd (let e : None ≡ Some node = sym none ∙ is in cc))

  pub built : Built m s root (graph_of m s root) number
  built = record {
    begin = ap (λ (k : ℕ). Some (Begin k)) (sym root_first);
    end = got_vertex 1 one_left
        ∙ ap (λ (o : Option Node). Some (vertex_in (length m.vars) number o))
        (inner_low s.nodes 1 (omega arith));
    test = λ n node there is low.
        got_vertex n (left_inner n node there is)
        ∙ ap (λ (o : Option Node). Some (vertex_in (length m.vars) number o)) is
        ∙ ap (λ (b : Bool). Some
        (cond b (Test node.var (map number node.kids))
        (Assign (node.var - length m.vars) (code_there node.kids)
        (number (slice_index node.kids (code_there node.kids))))))
        (lt-ltb node.var (length m.vars) low);
    assign = λ n node y c there is var low some.
        let one = only_code n node there is (omega arith) c low some in
        let e : node.var - length m.vars ≡ y = omega arith in
        got_vertex n (left_inner n node there is)
        ∙ ap (λ (o : Option Node). Some (vertex_in (length m.vars) number o)) is
        ∙ ap (λ (b : Bool). Some
        (cond b (Test node.var (map number node.kids))
        (Assign (node.var - length m.vars) (code_there node.kids)
        (number (slice_index node.kids (code_there node.kids))))))
        (le-ltb node.var (length m.vars) (omega arith))
        ∙ ap (λ (z : ℕ). Some
        (Assign z (code_there node.kids)
        (number (slice_index node.kids (code_there node.kids))))) e
        ∙ ap (λ (i : ℕ). Some (Assign y i (number (slice_index node.kids i)))) (sym one);
    first = omega arith;
    onward = λ n node c there is low some.
        let in_n = left_inner n node there is in
        ⊎_elim
        (λ test.
        let e = next_test n node is test in
        let long : length (next n) ≡ length node.kids = ap (λ (xs : List ℕ). length xs) e in
        let step = closed_next next left n c closed in_n (omega arith) in
        let later : place left n < place left (slice_index (next n) c) = step.1 in
        let f = ap (λ (xs : List ℕ). place left (slice_index xs c)) e in
        omega arith)
        (λ result.
        let e = next_result n node is result in
        let long : length (next n) ≡ 1 = ap (λ (xs : List ℕ). length xs) e in
        let one = only_code n node there is result c low some in
        let step = closed_next next left n 0 closed in_n (omega arith) in
        let later : place left n < place left (slice_index (next n) 0) = step.1 in
        let f : place left (slice_index (next n) 0) ≡ place left (slice_index node.kids c) =
        ap (λ (xs : List ℕ). place left (slice_index xs 0)) e
        ∙ ap (λ (i : ℕ). place left (slice_index node.kids i)) (sym one) in
        omega arith)
        (cases_lt node.var (length m.vars));
    only = λ k v is. only_of k v is;
    apart = λ a b ra rb some_a some_b e.
        same_node a b (left_met a ra some_a) (left_met b rb some_b) e;
  }
    where
      only_of : (k : ℕ) (v : Vertex) → slice_get (graph_of m s root) k ≡ Some v
          → (k ≡ 0) ⊎ ((n : ℕ) × Reaches s root n × (n ≢ 0) × (k ≡ number n))
      only_of zero v is = inl refl
      only_of (suc i) v is =
          let back = got_back (λ k. vertex_in (length m.vars) number (inner_at s.nodes k)) left i v
          is in
          let met = every_at Met left i all_met back.0 in
          inr (slice_index left i, met.0, met.1, ap suc (sym (place_at next left i closed back.0)))

  -- ---- edges go on
  graph : List Vertex
  graph = graph_of m s root

  long_graph : length (graph_of m s root) ≡ suc (length left)
  long_graph = ap suc (length_map (λ k. vertex_in (length m.vars) number (inner_at s.nodes k)) left)

  -- the children of the vertex after the begin at place i
  kids_there : (i : ℕ) (v : Vertex) → slice_get (graph_of m s root) (suc i) ≡ Some v
      → (i < length left) × (kids_of v ≡ map number (next (slice_index left i)))
  kids_there i v is =
      let back = got_back (λ k. vertex_in (length m.vars) number (inner_at s.nodes k)) left i v
      is in (
        back.0,
        ap kids_of back.1 ∙ kids_vertex (length m.vars) number
            (inner_at s.nodes (slice_index left i)),
      )

  kid_there : (i j : ℕ) (v : Vertex) → slice_get (graph_of m s root) (suc i) ≡ Some v
      → j < length (kids_of v) → (suc i < slice_index (kids_of v) j)
      × (slice_index (kids_of v) j < length (graph_of m s root))
  kid_there i j v is low =
      let there = kids_there i v is in
      let inside : i < length left = there.0 in
      let n = slice_index left i in
      let long : length (kids_of v) ≡ length (next n) =
      ap (λ (xs : List ℕ). length xs) there.1 ∙ length_map number (next n) in
      let in_n = has_at next left i inside in
      let step = closed_next next left n j closed in_n (omega arith) in
      let later : place left n < place left (slice_index (next n) j) = step.1 in
      let own = place_at next left i closed inside in
      let kid : slice_index (kids_of v) j ≡ suc (place left (slice_index (next n) j)) =
      ap (λ (xs : List ℕ). slice_index xs j) there.1
      ∙ index_map number (next n) j (omega arith) in
      let bound = in_place next left (slice_index (next n) j) step.0 in
      let total = long_graph in
      (omega arith, omega arith)

  pub goes_on : GoesOn (graph_of m s root)
  goes_on = record {
    begin = refl;
    only = λ k next_vertex is. only_first k next_vertex is;
    above = λ k v j is low. (edge k v j is low).0;
    within = λ k v j is low. (edge k v j is low).1;
  }
    where
      only_first : (k next_vertex : ℕ) → slice_get (graph_of m s root) k ≡ Some (Begin next_vertex)
          → k ≡ 0
      only_first zero next_vertex is = refl
      only_first (suc i) next_vertex is =
          let back = got_back (λ k. vertex_in (length m.vars) number (inner_at s.nodes k)) left i
          (Begin next_vertex) is in
          absurd (no_begin (length m.vars) number (inner_at s.nodes (slice_index left i))
          next_vertex (sym back.1))

      edge : (k : ℕ) (v : Vertex) (j : ℕ) → slice_get (graph_of m s root) k ≡ Some v
          → j < length (kids_of v) → (k < slice_index (kids_of v) j)
          × (slice_index (kids_of v) j < length (graph_of m s root))
      edge zero v j is low =
          let same : v ≡ Begin 1 = cc in
          let e : kids_of v ≡ 1 ∷ [] = ap kids_of same in
          let long : length (kids_of v) ≡ 1 = ap (λ (xs : List ℕ). length xs) e in
          let first : j ≡ 0 = omega arith in
          let kid : slice_index (kids_of v) j ≡ 1 =
          ap (λ (xs : List ℕ). slice_index xs j) e ∙ ap (slice_index (1 ∷ [])) first in
          let total = long_graph in
          let some = in_place next left root after.here in
          (omega arith, omega arith)
      edge (suc i) v j is low = kid_there i j v is low

  -- ---- and the vertices stand in the order of the walk
  kids_at_number : (k : ℕ) → has left k ≡ true
      → kids_at (graph_of m s root) (number k) ≡ map number (next k)
  kids_at_number k in_k = ap kids_in (got_vertex k in_k)
      ∙ kids_vertex (length m.vars) number (inner_at s.nodes k)

  kids_rise : (k i : ℕ) → i < length (kids_at (graph_of m s root) k)
      → (k < slice_index (kids_at (graph_of m s root) k) i)
      × (slice_index (kids_at (graph_of m s root) k) i < length (graph_of m s root))
  kids_rise k i low = go (slice_get (graph_of m s root) k) refl low
    where
      go : (o : Option Vertex) → slice_get (graph_of m s root) k ≡ o → i < length (kids_in o)
          → (k < slice_index (kids_in (slice_get (graph_of m s root) k)) i)
          × (slice_index (kids_in (slice_get (graph_of m s root) k)) i < length (graph_of m s root))
      go None is low = absurd (omega arith)
      go (Some v) is low = rw is (goes_on.above k v i is low, goes_on.within k v i is low)

  numbers_left : 0 ∷ map number left ≡ upto (suc (length left))
  numbers_left =
      let long = length_map number left in
      let total = length_upto (suc (length left)) in
      same_number_lists (0 ∷ map number left) (upto (suc (length left))) (omega arith)
      (λ i low. at i (omega arith) ∙ sym (index_upto (suc (length left)) i (omega arith)))
    where
      at : (i : ℕ) → i < suc (length left) → slice_index (0 ∷ map number left) i ≡ i
      at zero low = refl
      at (suc i) low = index_map number left i (omega arith)
          ∙ ap suc (place_at next left i closed (omega arith))

  pub numbered : Numbered (graph_of m s root)
  numbered =
      let total : ℕ = length (graph_of m s root) in
      let kids : ℕ → List ℕ = kids_at (graph_of m s root) in
      let fuel : ℕ = suc root + total in
      let whole = enough kids total kids_rise total (suc fuel) [] 0 (omega arith) (omega arith)
      (let e = long_graph in omega arith) in
      let first = visit_new kids fuel [] 0 refl in
      let inner = renamed next kids number (λ k. has left k ≡ true)
      (λ a b in_a in_b e. same_node a b in_a in_b e) kids_at_number
      (λ k i in_k low. (closed_next next left k i closed in_k low).0) fuel [] root tt
      after.here in
      let down = enough_down next falls fuel (suc root) [] root (omega arith) (omega arith) in
      whole
      ∙ first
      ∙ ap (λ (k : ℕ). 0 ∷ left_after fuel kids [] k) (sym root_first)
      ∙ ap (λ (xs : List ℕ). 0 ∷ xs) (inner.0 ∙ ap (map number) down)
      ∙ numbers_left
      ∙ ap upto (sym long_graph)
