-- The vertices of the nodes that were left are the graph.
use Rattle.std.proofs.Common.{◌≡◌, ⊎_elim, ℕ, zero, suc, ◌+◌, ◌-◌, ◌<◌, ◌≤◌, Bool, true, false, cond, ◌||◌, List, ◌∷◌, ◌++◌, map, length, take, drop, replicate, slice_get, slice_index, slice_set, Option, Some, None, refl, ap, sym, ◌∙◌, arith, eqb, ltb, []}
use Rattle.std.proofs.lemmas.Bool.{cases_eq, eq-eqb, ne_eqb, true≢false, or_left, or_right, or_cases}
use Rattle.transition_table.specs.declared.machine.Machine.{Machine}
use Rattle.transition_table.specs.NetworkFacts.{has}
use Rattle.domains.specs.Orders.{place}
use Rattle.decision_diagram.specs.Diagrams.{Node, Diagrams, inner_at, AreReduced}
use Rattle.sgraph.specs.declared.vertex.Vertex.{Vertex}
use Rattle.sgraph.specs.declared.vertex.Vertex.TheVariants.{Begin, Test, Assign}
use Rattle.sgraph.specs.Graphs.{left_after}
use Rattle.sgraph.specs.Building.{code_there, next_in, next_nodes, nodes_left, number_in, vertex_in, graph_of}
use Rattle.sgraph.specs.inner.Marks.{turned}
use Rattle.sgraph.proofs.LeftAfter.{Closed, visit_after, closed_next}
use Rattle.sgraph.proofs.NextNodes.{got, take_one, take_whole, falls, turned_push}
use Rattle.decision_diagram.proofs.ListItems.{read_within}
use Rattle.polis_base.proofs.Places.{drop_one, index_set, length_set}

-- ---- lists
pub has_after : (xs ys : List ℕ) (k : ℕ) → has ys k ≡ true → has (xs ++ ys) k ≡ true
has_after [] ys k h = h
has_after (x ∷ xs) ys k h = or_right (eqb x k) (has (xs ++ ys) k) (has_after xs ys k h)

pub has_prefix : (xs ys : List ℕ) (k : ℕ) → has xs k ≡ true → has (xs ++ ys) k ≡ true
has_prefix [] ys k h = absurd (true≢false (sym h))
has_prefix (x ∷ xs) ys k h =
    ⊎_elim (λ own. or_left (eqb x k) (has (xs ++ ys) k) own)
    (λ other. or_right (eqb x k) (has (xs ++ ys) k) (has_prefix xs ys k other))
    (or_cases (eqb x k) (has xs k) h)

pub has_turned : (xs : List ℕ) (i : ℕ) → i < length xs → has (turned xs) (slice_index xs i) ≡ true
has_turned [] i low = absurd (omega arith)
has_turned (x ∷ xs) zero low =
    has_after (turned xs) (x ∷ []) x (or_left (eqb x x) false (eq-eqb x x refl))
has_turned (x ∷ xs) (suc i) low =
    has_prefix (turned xs) (x ∷ []) (slice_index xs i) (has_turned xs i (omega arith))

pub map_push : {X : Type 0} (f : ℕ → X) (xs : List ℕ) (x : ℕ)
    → map f (xs ++ x ∷ []) ≡ map f xs ++ f x ∷ []
map_push f [] x = refl
map_push f (y ∷ ys) x = ap (λ zs. f y ∷ zs) (map_push f ys x)

pub drop_whole : (xs : List ℕ) (i : ℕ) → length xs ≤ i → drop i xs ≡ []
drop_whole [] zero high = refl
drop_whole [] (suc i) high = refl
drop_whole (x ∷ xs) zero high = absurd (omega arith)
drop_whole (x ∷ xs) (suc i) high = drop_whole xs i (omega arith)

-- ---- numbers

pub set_there : (xs : List ℕ) (k j x : ℕ) → (k ≡ j → ⊥)
    → slice_index (slice_set xs k x) j ≡ slice_index xs j
set_there [] k j x other = refl
set_there (y ∷ ys) zero zero x other = absurd (other refl)
set_there (y ∷ ys) zero (suc j) x other = refl
set_there (y ∷ ys) (suc k) zero x other = refl
set_there (y ∷ ys) (suc k) (suc j) x other = set_there ys k j x (λ e. other (ap suc e))

pub long_zeros : (n : ℕ) → length (replicate {A = ℕ} n 0) ≡ n
long_zeros zero = refl
long_zeros (suc n) = ap suc (long_zeros n)

-- the nodes or vertices so far have their numbers from a least one on, where so many follow
pub record Numbers (count len least : ℕ) (left numbers : List ℕ) (i : ℕ) : Type 0 where
  pub long : length numbers ≡ count
  pub each : (k : ℕ) → has (turned (take i left)) k ≡ true
      → slice_index numbers k + i ≡ least + (len + place (turned (take i left)) k)

pub numbers_start : (count len least : ℕ) (left numbers : List ℕ) → numbers ≡ replicate count 0
    → Numbers count len least left numbers 0
numbers_start count len least left numbers is =
    record {
      long = ap (λ (xs : List ℕ). length xs) is ∙ long_zeros count;
      each = λ k h. absurd (true≢false (sym h));
    }

pub numbers_more : (count len least : ℕ) (left numbers more : List ℕ) (i k x : ℕ)
    → Numbers count len least left numbers i → slice_get left i ≡ Some k → k < count
    → x + i + 1 ≡ least + len → more ≡ slice_set numbers k x
    → Numbers count len least left more (i + 1)
numbers_more count len least left numbers more i k x ok is low is_x e =
    let own = ok.long in
    let inside = read_within left i k is in
    let long = length_set numbers k x in
    let same : length more ≡ length (slice_set numbers k x) =
    ap (λ (xs : List ℕ). length xs) e in
    let f : i + 1 ≡ suc i = omega arith in
    let one_more : turned (take (i + 1) left) ≡ k ∷ turned (take i left) =
    ap (λ (j : ℕ). turned (take j left)) f ∙ ap turned (take_one left i inside)
    ∙ turned_push (take i left) (slice_index left i)
    ∙ ap (λ (x : ℕ). x ∷ turned (take i left)) (got left i k is)
    in
    record {
      long = omega arith;
      each = λ j h.
          let in_list : has (k ∷ turned (take i left)) j ≡ true =
          ap (λ (xs : List ℕ). has xs j) (sym one_more) ∙ h in
          let at : place (turned (take (i + 1) left)) j ≡ place (k ∷ turned (take i left)) j =
          ap (λ (xs : List ℕ). place xs j) one_more in
          let read : slice_index more j ≡ slice_index (slice_set numbers k x) j =
          ap (λ (xs : List ℕ). slice_index xs j) e in
          ⊎_elim
          (λ here.
          let h : k ≡ j = here in
          let set : slice_index (slice_set numbers k x) j ≡ x =
          ap (slice_index (slice_set numbers k x)) (sym h)
          ∙ index_set numbers k x (omega arith) in
          let p : place (k ∷ turned (take i left)) j ≡ 0 =
          ap (λ (b : Bool). cond b 0 (place (turned (take i left)) j + 1)) (eq-eqb k j here) in
          omega arith)
          (λ other.
          let off = ne_eqb k j other in
          let set = set_there numbers k j x other in
          let p : place (k ∷ turned (take i left)) j ≡ place (turned (take i left)) j + 1 =
          ap (λ (b : Bool). cond b 0 (place (turned (take i left)) j + 1)) off in
          let old = ok.each j (sym (ap (λ (b : Bool). b || has (turned (take i left)) j) off)
          ∙ in_list) in
          omega arith)
          (cases_eq k j);
    }

pub numbers_end : (count len least : ℕ) (left numbers : List ℕ) (i : ℕ)
    → Numbers count len least left numbers i → len ≡ length left → i ≡ len → (k : ℕ)
    → has (turned left) k ≡ true → slice_index numbers k ≡ least + place (turned left) k
numbers_end count len least left numbers i ok is at k h =
    let whole = take_whole left i (omega arith) in
    let e = ok.each k (ap (λ (xs : List ℕ). has (turned xs) k) whole ∙ h) in
    let p : place (turned (take i left)) k ≡ place (turned left) k =
    ap (λ (xs : List ℕ). place (turned xs) k) whole in
    omega arith

-- ---- children
-- the children before a code have their numbers
pub record KidNumbers (numbers kids list : List ℕ) (size code : ℕ) : Type 0 where
  pub long : length list ≡ size
  pub each : (j : ℕ) → j < code → slice_index list j ≡ slice_index numbers (slice_index kids j)

-- ---- vertices
pub one_vertex : (f : ℕ → Vertex) (left : List ℕ) (vertices more : List Vertex) (i k : ℕ)
    (v : Vertex) → vertices ≡ Begin 1 ∷ map f (turned (drop (i + 1) left))
    → slice_get left i ≡ Some k → v ≡ f k → more ≡ vertices ++ v ∷ []
    → more ≡ Begin 1 ∷ map f (turned (drop i left))
one_vertex f left vertices more i k v is is_k is_v e =
    let g : i + 1 ≡ suc i = omega arith in
    e
    ∙ ap (λ (vs : List Vertex). vs ++ v ∷ [])
    (is ∙ ap (λ (j : ℕ). Begin 1 ∷ map f (turned (drop j left))) g)
    ∙ ap (λ (w : Vertex). Begin 1 ∷ (map f (turned (drop (suc i) left)) ++ w ∷ [])) is_v
    ∙ ap (λ (vs : List Vertex). Begin 1 ∷ vs) (sym (map_push f (turned (drop (suc i) left)) k))
    ∙ ap (λ (xs : List ℕ). Begin 1 ∷ map f (turned xs)) (sym (drop_one left i k is_k))

-- ---- the whole
pub all_nodes : (s : Diagrams) (n root bound : ℕ) → AreReduced s → (left : List ℕ)
    → turned left ≡ left_after (suc root) (next_nodes s n) [] root → root < bound → (i : ℕ)
    → i < length left → slice_index left i < bound
all_nodes s n root bound ok left is low i inside =
    let after = visit_after (next_nodes s n) (falls s n ok) (suc root) [] root (omega arith) in
    let there = ap (λ (xs : List ℕ). has xs (slice_index left i)) (sym is)
    ∙ has_turned left i inside in
    ⊎_elim (λ none. absurd (true≢false (sym none))) (λ small. omega arith)
    (after.new (slice_index left i) there)

pub map_numbers : (a b : ℕ → ℕ) (xs : List ℕ)
    → ((i : ℕ) → i < length xs → a (slice_index xs i) ≡ b (slice_index xs i)) → map a xs ≡ map b xs
map_numbers a b [] h = refl
map_numbers a b (x ∷ xs) h = ap (λ (n : ℕ). n ∷ map a xs) (h 0 (omega arith))
    ∙ ap (λ (ns : List ℕ). b x ∷ ns) (map_numbers a b xs (λ i low. h (suc i) (omega arith)))

same_vertex : (n : ℕ) (a b : ℕ → ℕ) (o : Option Node)
    → ((i : ℕ) → i < length (next_in n o)
    → a (slice_index (next_in n o) i) ≡ b (slice_index (next_in n o) i))
    → vertex_in n a o ≡ vertex_in n b o
same_vertex n a b None h = refl
same_vertex n a b (Some node) h =
    go (ltb node.var n) h
  where
    go : (t : Bool)
        → ((i : ℕ) → i < length
        (cond t node.kids (slice_index node.kids (code_there node.kids) ∷ []))
        → a (slice_index (cond t node.kids (slice_index node.kids (code_there node.kids) ∷ [])) i)
        ≡ b (slice_index (cond t node.kids (slice_index node.kids (code_there node.kids) ∷ [])) i))
        → cond t (Test node.var (map a node.kids))
        (Assign (node.var - n) (code_there node.kids)
        (a (slice_index node.kids (code_there node.kids))))
        ≡ cond t (Test node.var (map b node.kids))
        (Assign (node.var - n) (code_there node.kids)
        (b (slice_index node.kids (code_there node.kids))))
    go true h = ap (Test node.var) (map_numbers a b node.kids h)
    go false h = ap (Assign (node.var - n) (code_there node.kids)) (h 0 (omega arith))

pub map_members : (f g : ℕ → Vertex) (all xs : List ℕ) → ((k : ℕ) → has all k ≡ true → f k ≡ g k)
    → ((k : ℕ) → has xs k ≡ true → has all k ≡ true) → map f xs ≡ map g xs
map_members f g all [] h in_all = refl
map_members f g all (x ∷ xs) h in_all =
    ap (λ (v : Vertex). v ∷ map f xs)
    (h x (in_all x (or_left (eqb x x) (has xs x) (eq-eqb x x refl))))
    ∙ ap (λ (vs : List Vertex). g x ∷ vs)
    (map_members f g all xs h (λ k there. in_all k (or_right (eqb x k) (has xs k) there)))

pub is_graph_of : (m : Machine) (s : Diagrams) (root : ℕ) (left numbers : List ℕ)
    (vertices : List Vertex) → AreReduced s → turned left ≡ nodes_left s (length m.vars) root
    → ((k : ℕ) → has (turned left) k ≡ true → slice_index numbers k ≡ number_in (turned left) k)
    → vertices ≡ Begin 1
    ∷ map (λ k. vertex_in (length m.vars) (slice_index numbers) (inner_at s.nodes k)) (turned left)
    → vertices ≡ graph_of m s root
is_graph_of m s root left numbers vertices ok is numbered e =
    let n = length m.vars in
    let next = next_nodes s n in
    let all = nodes_left s n root in
    let after = visit_after next (falls s n ok) (suc root) [] root (omega arith) in
    let closed : Closed next (left_after (suc root) next [] root) = after.closed tt in
    e
    ∙ ap (λ (xs : List ℕ). Begin 1 ∷ map
    (λ k. vertex_in n (slice_index numbers) (inner_at s.nodes k)) xs) is
    ∙ ap (λ (vs : List Vertex). Begin 1 ∷ vs)
    (map_members (λ k. vertex_in n (slice_index numbers) (inner_at s.nodes k))
    (λ k. vertex_in n (number_in all) (inner_at s.nodes k)) all all
    (λ k there.
    same_vertex n (slice_index numbers) (number_in all) (inner_at s.nodes k)
    (λ i low.
    let step = closed_next next all k i closed there low in
    numbered (slice_index (next k) i) (ap (λ (xs : List ℕ). has xs (slice_index (next k) i)) is
    ∙ step.0)
    ∙ ap (λ (xs : List ℕ). number_in xs (slice_index (next k) i)) is))
    (λ k there. there))
