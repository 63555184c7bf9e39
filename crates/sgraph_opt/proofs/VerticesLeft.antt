-- The vertices that were left are the graph that is numbered again.
use Rattle.std.proofs.Common.{◌≡◌, ℕ, zero, suc, ◌+◌, ◌<◌, true, List, ◌∷◌, ◌++◌, map, length, drop, slice_get, slice_index, Option, Some, None, refl, ap, sym, subst, ◌∙◌, arith, []}
use Rattle.std.specs.Prelude.{unwrap_or}
use Rattle.transition_table.specs.NetworkFacts.{has}
use Rattle.domains.specs.Orders.{place}
use Rattle.sgraph.specs.declared.vertex.Vertex.{Vertex}
use Rattle.sgraph.specs.declared.vertex.Vertex.TheVariants.{Begin, Test, Assign, End}
use Rattle.sgraph.specs.Graphs.{kids_of, kids_in, kids_at}
use Rattle.sgraph.specs.inner.Marks.{turned}
use Rattle.sgraph_opt.specs.inner.Representatives.{renamed}
use Rattle.sgraph_opt.specs.Renumbering.{all_left}
use Rattle.sgraph_opt.specs.inner.Renumbering.{vertex_at, numbered_of, Rises}
use Rattle.decision_diagram.proofs.Distinct.{Every}
use Rattle.sgraph.proofs.LeftAfter.{Closed, closed_next, every_left}
use Rattle.sgraph_opt.proofs.NumberedOf.{map_map}
use Rattle.sgraph.proofs.IsGraph.{long_map}
use Rattle.sgraph_opt.proofs.LeftBeyond.{visit_beyond}
use Rattle.sgraph.proofs.GraphOf.{map_push, map_numbers, map_members}
use Rattle.decision_diagram.proofs.ByVariable.{index_map}
use Rattle.polis_base.proofs.Places.{drop_one}

-- ---- children
-- what stands for the children is within
pub named_low : (reps kids named : List ℕ) (count : ℕ) → named ≡ map (slice_index reps) kids
    → ((j : ℕ) → j < length kids → slice_index reps (slice_index kids j) < count)
    → (j : ℕ) → j < length named → slice_index named j < count
named_low reps kids named count is all j low =
    let long : length named ≡ length kids =
    ap (λ (xs : List ℕ). length xs) is ∙ long_map (slice_index reps) kids in
    let at_j : slice_index named j ≡ slice_index reps (slice_index kids j) =
    ap (λ (xs : List ℕ). slice_index xs j) is
    ∙ index_map (slice_index reps) kids j (omega arith) in
    let inside = all j (omega arith) in
    omega arith

-- the new numbers of what stands for the children
pub named_twice : (reps numbers kids named list : List ℕ) → named ≡ map (slice_index reps) kids
    → list ≡ map (slice_index numbers) named
    → list ≡ map (λ k. slice_index numbers (slice_index reps k)) kids
named_twice reps numbers kids named list is e =
    e ∙ ap (map (slice_index numbers)) is ∙ map_map (slice_index numbers) (slice_index reps) kids

-- ---- vertices
pub one_vertex : (f : ℕ → Vertex) (left : List ℕ) (vertices more : List Vertex) (i k : ℕ)
    (v : Vertex) → vertices ≡ map f (turned (drop (i + 1) left)) → slice_get left i ≡ Some k
    → v ≡ f k → more ≡ vertices ++ v ∷ [] → more ≡ map f (turned (drop i left))
one_vertex f left vertices more i k v is is_k is_v e =
    let g : i + 1 ≡ suc i = omega arith in
    e
    ∙ ap (λ (vs : List Vertex). vs ++ v ∷ []) (is ∙ ap (λ (j : ℕ). map f (turned (drop j left))) g)
    ∙ ap (λ (w : Vertex). map f (turned (drop (suc i) left)) ++ w ∷ []) is_v
    ∙ sym (map_push f (turned (drop (suc i) left)) k)
    ∙ ap (λ (xs : List ℕ). map f (turned xs)) (sym (drop_one left i k is_k))

every_front : (P : ℕ → Type 0) (xs ys : List ℕ) → Every P (xs ++ ys) → Every P xs × Every P ys
every_front P [] ys all = (tt, all)
every_front P (x ∷ xs) ys all = let rest = every_front P xs ys all.1 in ((all.0, rest.0), rest.1)

every_turned : (P : ℕ → Type 0) (xs : List ℕ) (i : ℕ) → Every P (turned xs) → i < length xs
    → P (slice_index xs i)
every_turned P [] i all low = absurd (omega arith)
every_turned P (x ∷ xs) zero all low = (every_front P (turned xs) (x ∷ []) all).1.0
every_turned P (x ∷ xs) (suc i) all low =
    every_turned P xs i (every_front P (turned xs) (x ∷ []) all).0 (omega arith)

pub all_inside : (h : List Vertex) → Rises h → 0 < length h → (left : List ℕ)
    → turned left ≡ all_left h → (i : ℕ) → i < length left → slice_index left i < length h
all_inside h rises some left is i low =
    every_turned (λ k. k < length h) left i
    (subst (Every (λ k. k < length h)) (sym is)
    (every_left (kids_at h) (λ k. k < length h) (λ k j inside kid. (rises k j kid).1) (length h)
    [] 0 tt some)) low

same_renamed : (to other : ℕ → ℕ) (v : Vertex)
    → ((i : ℕ) → i < length (kids_of v)
    → to (slice_index (kids_of v) i) ≡ other (slice_index (kids_of v) i))
    → renamed to v ≡ renamed other v
same_renamed to other (Begin next) h = ap Begin (h 0 (omega arith))
same_renamed to other (Test var kids) h = ap (Test var) (map_numbers to other kids h)
same_renamed to other (Assign result code next) h = ap (Assign result code) (h 0 (omega arith))
same_renamed to other End h = refl

kids_vertex : (o : Option Vertex) → kids_of (unwrap_or o End) ≡ kids_in o
kids_vertex None = refl
kids_vertex (Some v) = refl

pub vertex_is : (h : List Vertex) (numbers : List ℕ) (k : ℕ) (v w : Vertex) → slice_get h k ≡ Some v
    → w ≡ renamed (slice_index numbers) v → w ≡ renamed (slice_index numbers) (vertex_at h k)
vertex_is h numbers k v w is e = e
    ∙ ap (λ (o : Option Vertex). renamed (slice_index numbers) (unwrap_or o End)) (sym is)

pub is_numbered_of : (h : List Vertex) → Rises h → 0 < length h
    → (left numbers : List ℕ) (vertices : List Vertex) → turned left ≡ all_left h
    → ((k : ℕ) → has (turned left) k ≡ true → slice_index numbers k ≡ place (turned left) k)
    → vertices ≡ map (λ k. renamed (slice_index numbers) (vertex_at h k)) (turned left)
    → vertices ≡ numbered_of h
is_numbered_of h rises some left numbers vertices is numbered e =
    let next = kids_at h in
    let closed : Closed (kids_at h) (all_left h) =
    (visit_beyond (kids_at h) (length h) rises (length h) [] 0 (omega arith) some).closed tt in
    e
    ∙ ap (λ (xs : List ℕ). map (λ k. renamed (slice_index numbers) (vertex_at h k)) xs) is
    ∙ map_members (λ k. renamed (slice_index numbers) (vertex_at h k))
    (λ k. renamed (place (all_left h)) (vertex_at h k)) (all_left h) (all_left h)
    (λ k there.
    same_renamed (slice_index numbers) (place (all_left h)) (vertex_at h k)
    (λ i low.
    let same : kids_of (vertex_at h k) ≡ kids_at h k = kids_vertex (slice_get h k) in
    let long : length (kids_of (vertex_at h k)) ≡ length (kids_at h k) =
    ap (λ (xs : List ℕ). length xs) same in
    let step = closed_next next (all_left h) k i closed there (omega arith) in
    let at : slice_index (kids_of (vertex_at h k)) i ≡ slice_index (kids_at h k) i =
    ap (λ (xs : List ℕ). slice_index xs i) same in
    ap (slice_index numbers) at
    ∙ numbered (slice_index (kids_at h k) i)
    (ap (λ (xs : List ℕ). has xs (slice_index (kids_at h k) i)) is ∙ step.0)
    ∙ ap (λ (xs : List ℕ). place xs (slice_index (kids_at h k) i)) is
    ∙ ap (place (all_left h)) (sym at)))
    (λ k there. there)
