-- Leaving vertices where each has what stands for its children.
use Rattle.std.proofs.Common.{◌≡◌, ℕ, ◌+◌, ◌<◌, List, map, length, take, slice_get, slice_index, Some, refl, ap, sym, ◌∙◌, arith}
use Rattle.std.proofs.lemmas.List.{length-map}
use Rattle.sgraph.specs.declared.vertex.Vertex.{Vertex}
use Rattle.sgraph.specs.declared.vertex.Vertex.TheVariants.{Begin, Test, Assign, End}
use Rattle.sgraph.specs.Facts.{IsGraph}
use Rattle.sgraph.specs.Graphs.{kids_of, kids_at, each, left_after}
use Rattle.sgraph.specs.inner.Marks.{turned}
use Rattle.sgraph_opt.specs.inner.Representatives.{renamed, Standing}
use Rattle.sgraph_opt.specs.inner.Renumbering.{replaced, vertex_at}
use Rattle.sgraph_opt.proofs.NumberedOf.{kids_renamed, map_map}
use Rattle.sgraph_opt.proofs.VerticesLeft.{vertex_is}
use Rattle.sgraph_opt.proofs.LeftAfter.{kids_here, left_next, kid_inside}
use Rattle.sgraph.proofs.NextNodes.{got}
use Rattle.sgraph_opt.proofs.Standing.{got_map, rises}
use Rattle.sgraph.proofs.EvalSteps.{got_some}
use Rattle.decision_diagram.proofs.ByVariable.{index_map}

pub long_replaced : (g : List Vertex) (reps : List ℕ) → length (replaced g reps) ≡ length g
long_replaced g reps = length-map g (renamed (slice_index reps))

-- the children of one vertex
module _ (g : List Vertex) (reps : List ℕ) (k : ℕ) (v : Vertex) (kids : List ℕ)
    (is : slice_get g k ≡ Some v) (e : kids ≡ kids_of v) where
  at : slice_get (replaced g reps) k ≡ Some (renamed (slice_index reps) v)
  at = got_map (renamed (slice_index reps)) g k v is

  same_kids : map (slice_index reps) kids ≡ kids_of (renamed (slice_index reps) v)
  same_kids = ap (map (slice_index reps)) e ∙ sym (kids_renamed (slice_index reps) v)

  pub all_kids : map (slice_index reps) kids ≡ kids_at (replaced g reps) k
  all_kids = kids_here (replaced g reps) k (renamed (slice_index reps) v)
      (map (slice_index reps) kids) at same_kids

  rep_is : (i rep : ℕ) → i < length kids → slice_get reps (slice_index kids i) ≡ Some rep
      → slice_index (map (slice_index reps) kids) i ≡ rep
  rep_is i rep low is_rep = index_map (slice_index reps) kids i low
      ∙ got reps (slice_index kids i) rep is_rep

  low_map : (i : ℕ) → i < length kids → i < length (map (slice_index reps) kids)
  low_map i low = let long = length-map kids (slice_index reps) in omega arith

  pub next_left : (first left new : List ℕ) (i rep : ℕ) → i < length kids
      → slice_get reps (slice_index kids i) ≡ Some rep → turned left
      ≡ each (left_after (length (replaced g reps)) (kids_at (replaced g reps))) (turned first)
      (take i (kids_at (replaced g reps) k))
      → turned new
      ≡ left_after (length (replaced g reps)) (kids_at (replaced g reps)) (turned left) rep
      → turned new
      ≡ each (left_after (length (replaced g reps)) (kids_at (replaced g reps))) (turned first)
      (take (i + 1) (kids_at (replaced g reps) k))
  next_left first left new i rep low is_rep so_far one =
      left_next (replaced g reps) k (renamed (slice_index reps) v) (map (slice_index reps) kids)
      first left new i at same_kids (low_map i low) so_far
      (one ∙ ap (left_after (length (replaced g reps)) (kids_at (replaced g reps)) (turned left))
      (sym (rep_is i rep low is_rep)))

  module _ (ok : IsGraph g) (s : Standing g reps 0) where
    pub kid_low : (i : ℕ) → i < length kids → slice_index kids i < length reps
    kid_low i low =
        let same = ap (λ (xs : List ℕ). length xs) e in
        let at_i = ap (λ (xs : List ℕ). slice_index xs i) e in
        let inside = ok.within k v i is (omega arith) in
        let long = s.long in
        omega arith

    pub rep_inside : (i rep : ℕ) → i < length kids → slice_get reps (slice_index kids i) ≡ Some rep
        → (k < rep) × (rep < length g)
    rep_inside i rep low is_rep =
        let at_i = rep_is i rep low is_rep in
        let r = kid_inside (replaced g reps) (rises g ok reps s) k i
        (slice_index (map (slice_index reps) kids) i) (map (slice_index reps) kids) all_kids
        (got_some (map (slice_index reps) kids) i (low_map i low)) in
        let up = r.0 in
        let inside = r.1 in
        let long = long_replaced g reps in
        (omega arith, omega arith)

    pub rep_low : (i : ℕ) → i < length kids → slice_index reps (slice_index kids i) < length g
    rep_low i low = (rep_inside i (slice_index reps (slice_index kids i)) low
        (got_some reps (slice_index kids i) (kid_low i low))).1

-- what a vertex becomes, once its children have what stands for them and then their new numbers
pub renamed_twice : (f to : ℕ → ℕ) (v : Vertex)
    → renamed f (renamed to v) ≡ renamed (λ k. f (to k)) v
renamed_twice f to (Begin next) = refl
renamed_twice f to (Test var kids) = ap (Test var) (map_map f to kids)
renamed_twice f to (Assign result code next) = refl
renamed_twice f to End = refl

pub vertex_again : (g : List Vertex) (reps numbers : List ℕ) (k : ℕ) (v w : Vertex)
    → slice_get g k ≡ Some v
    → w ≡ renamed (λ j. slice_index numbers (slice_index reps j)) v
    → w ≡ renamed (slice_index numbers) (vertex_at (replaced g reps) k)
vertex_again g reps numbers k v w is e =
    vertex_is (replaced g reps) numbers k (renamed (slice_index reps) v) w
    (got_map (renamed (slice_index reps)) g k v is)
    (e ∙ sym (renamed_twice (slice_index numbers) (slice_index reps) v))
