-- What stands for the vertices, numbered again, is a graph that keeps what the graph does.
use Rattle.std.proofs.Common.{◌≡◌, ⊎_elim, ℕ, ◌+◌, ◌-◌, ◌<◌, ◌≤◌, true, false, List, ◌∷◌, map, length, slice_get, slice_index, get_or, Option, Some, None, refl, ap, sym, subst, ◌∙◌, arith, eqb, []}
use Rattle.std.specs.Prelude.{unwrap_or, filter_map}
use Rattle.std.specs.List.{list_any}
use Rattle.std.proofs.lemmas.Bool.{eqb-true, ne_eqb, or_cases, false≢true}
use Rattle.std.proofs.lemmas.List.{get_or_default}
use Rattle.std.proofs.lemmas.Map.Steps.{length-le_from_distinct_below}
use Rattle.std.proofs.lemmas.Map.Keys.{IsDistinct-from_apart}
use Rattle.domains.specs.Orders.{place}
use Rattle.transition_table.specs.NetworkFacts.{has, are_different}
use Rattle.transition_table.specs.declared.machine.Machine.{Machine}
use Rattle.sgraph.specs.declared.vertex.Vertex.{Vertex}
use Rattle.sgraph.specs.declared.vertex.Vertex.TheVariants.{Begin, Test, Assign, End}
use Rattle.sgraph.specs.Facts.{IsGraph, assigned_by}
use Rattle.sgraph.specs.Graphs.{kids_of, kids_in, kids_at, IsPath, item_of, tested_by, items, tests, Numbered, rises as rises_of}
use Rattle.sgraph.specs.Walks.{FitsMachine}
use Rattle.sgraph_opt.specs.Renumbering.{all_left}
use Rattle.sgraph_opt.specs.inner.Renumbering.{vertex_at, numbered_of, replaced, Rises}
use Rattle.sgraph_opt.specs.inner.Representatives.{renamed, Standing}
use Rattle.sgraph_opt.specs.inner.Shrinking.{Shrinks}
use Rattle.sgraph_opt.specs.Smaller.{FitsReached, OrderedReached, OnceReached, Keeps}
use Rattle.sgraph_opt.proofs.NumberedOf.{again, again_rises, closed, first_zero, shrinks_again, long_vertices, got_map as got_map_vertex, kids_renamed}
use Rattle.sgraph.proofs.NumberedGraph.{every_at}
use Rattle.sgraph.proofs.IsGraph.{long_map}
use Rattle.sgraph_opt.proofs.SameOutcome.{same_outcome}
use Rattle.sgraph.proofs.LeftAfter.{Closed, every_left, place_at}
use Rattle.sgraph_opt.proofs.ShrunkPaths.{BeginsWith, lifted, part_different, part_rises}
use Rattle.decision_diagram.proofs.Distinct.{Every}
use Rattle.sgraph_opt.proofs.ReachedVertices.{source, had, few}
use Rattle.sgraph_opt.proofs.Standing.{got_map, standing_shrinks, rises, first_stands, some_vertex, own, within}
use Rattle.sgraph.proofs.IsGraph.{there_is}
use Rattle.decision_diagram.proofs.ListItems.{read_within}
use Rattle.transition_table.proofs.Ranges.{below_size}
use Rattle.decision_diagram.proofs.ByVariable.{index_map}
use Rattle.polis_base.proofs.Places.{same_some}

-- what a vertex shows doesn't hang on its children
same_item : (n : ℕ) (to : ℕ → ℕ) (v : Vertex) → item_of n (Some (renamed to v)) ≡ item_of n (Some v)
same_item n to (Begin next) = refl
same_item n to (Test var kids) = refl
same_item n to (Assign result code next) = refl
same_item n to End = refl

same_tested : (to : ℕ → ℕ) (v : Vertex) → tested_by (Some (renamed to v)) ≡ tested_by (Some v)
same_tested to (Begin next) = refl
same_tested to (Test var kids) = refl
same_tested to (Assign result code next) = refl
same_tested to End = refl

same_assigned : (to : ℕ → ℕ) (v : Vertex) → assigned_by (Some (renamed to v)) ≡ assigned_by (Some v)
same_assigned to (Begin next) = refl
same_assigned to (Test var kids) = refl
same_assigned to (Assign result code next) = refl
same_assigned to End = refl

-- what a vertex with other children was
test_once : (to : ℕ → ℕ) (v : Vertex) (var : ℕ) (kids : List ℕ) → Test var kids ≡ renamed to v
    → (ks : List ℕ) × (v ≡ Test var ks) × (length kids ≡ length ks)
test_once to (Begin n) var kids e = absurd (let f : Test var kids ≡ Begin (to n) = e in cc)
test_once to (Test w ks) var kids e =
    let f : Test var kids ≡ Test w (map to ks) = e in
    let same_var : var ≡ w = cc in
    let same_kids : kids ≡ map to ks = cc in (
      ks,
      ap (λ (n : ℕ). Test n ks) (sym same_var),
      ap (λ (xs : List ℕ). length xs) same_kids ∙ long_map to ks,
    )
test_once to (Assign result code n) var kids e =
    absurd (let f : Test var kids ≡ Assign result code (to n) = e in cc)
test_once to End var kids e = absurd (let f : Test var kids ≡ End = e in cc)

assign_once : (to : ℕ → ℕ) (v : Vertex) (result code next : ℕ)
    → Assign result code next ≡ renamed to v → (n : ℕ) × (v ≡ Assign result code n)
assign_once to (Begin n) result code next e =
    absurd (let f : Assign result code next ≡ Begin (to n) = e in cc)
assign_once to (Test var kids) result code next e =
    absurd (let f : Assign result code next ≡ Test var (map to kids) = e in cc)
assign_once to (Assign y c n) result code next e =
    let f : Assign result code next ≡ Assign y c (to n) = e in
    let same_result : result ≡ y = cc in
    let same_code : code ≡ c = cc in (
      n,
      ap (λ (z : ℕ). Assign z c n) (sym same_result)
          ∙ ap (λ (z : ℕ). Assign result z n) (sym same_code),
    )
assign_once to End result code next e = absurd (let f : Assign result code next ≡ End = e in cc)

-- paths of reached vertices
ordered_path : (g : List Vertex) (n : ℕ) (order : List ℕ) → OrderedReached n order g
    → (path : List ℕ) → BeginsWith (has (all_left g)) path → IsPath g path
    → rises_of (map (place order) (items n g path)) ≡ true
ordered_path g n order goes [] on walk = refl
ordered_path g n order goes (k ∷ path) on walk = goes k path on walk

once_path : (g : List Vertex) → OnceReached g → (path : List ℕ)
    → BeginsWith (has (all_left g)) path → IsPath g path → are_different (tests g path) ≡ true
once_path g goes [] on walk = refl
once_path g goes (k ∷ path) on walk = goes k path on walk

module _ (g : List Vertex) (reps : List ℕ) (ok : IsGraph g) (s : Standing g reps 0) where
  abbrev pub h : List Vertex
  h = replaced g reps

  abbrev pub left : List ℕ
  left = all_left (replaced g reps)

  abbrev pub small : List Vertex
  small = numbered_of (replaced g reps)

  -- the new number of what stands for a vertex
  abbrev pub to : ℕ → ℕ
  to k = place (all_left (replaced g reps)) (slice_index reps k)

  some : 0 < length (replaced g reps)
  some = some_vertex g ok reps s

  rising : Rises (replaced g reps)
  rising = rises g ok reps s

  some_here : 0 < length g
  some_here = read_within g 0 (Begin ok.begin.0) ok.begin.1

  rising_here : Rises g
  rising_here k i low = go (slice_get g k) refl low
    where
      go : (o : Option Vertex) → slice_get g k ≡ o → i < length (kids_in o)
          → (k < slice_index (kids_in o) i) × (slice_index (kids_in o) i < length g)
      go None is low = absurd (omega arith)
      go (Some v) is low = (ok.above k v i is low, ok.within k v i is low)

  shrinks : Shrinks g (numbered_of (replaced g reps))
      (λ k. place (all_left (replaced g reps)) (slice_index reps k)) (has (all_left g))
  shrinks = shrinks_again g (replaced g reps) (slice_index reps) some rising some_here rising_here
      (standing_shrinks g reps 0 s refl) (first_stands g ok reps s) ok.only_begin

  first : place (all_left (replaced g reps)) (slice_index reps 0) ≡ 0
  first = ap (place (all_left (replaced g reps))) (first_stands g ok reps s)
      ∙ first_zero (replaced g reps) some rising

  is_closed : Closed (kids_at (replaced g reps)) (all_left (replaced g reps))
  is_closed = closed (replaced g reps) some rising

  -- ---- each vertex stands for itself in the graph
  abbrev Own : ℕ → Type 0
  Own k = (slice_index reps k ≡ k) × (k < length g)

  own_kid : (k i : ℕ) → Own k → i < length (kids_at (replaced g reps) k)
      → Own (slice_index (kids_at (replaced g reps) k) i)
  own_kid k i has low = go (there_is g k has.1)
    where
      go : (v : Vertex) × (slice_get g k ≡ Some v)
          → Own (slice_index (kids_at (replaced g reps) k) i)
      go v =
          let kids : kids_at (replaced g reps) k ≡ map (slice_index reps) (kids_of v.0) =
          ap kids_in (got_map (renamed (slice_index reps)) g k v.0 v.1)
          ∙ kids_renamed (slice_index reps) v.0 in
          let long : length (kids_at (replaced g reps) k) ≡ length (kids_of v.0) =
          ap (λ (ks : List ℕ). length ks) kids ∙ long_map (slice_index reps) (kids_of v.0) in
          let at : slice_index (kids_at (replaced g reps) k) i
          ≡ slice_index reps (slice_index (kids_of v.0) i) =
          ap (λ (ks : List ℕ). slice_index ks i) kids
          ∙ index_map (slice_index reps) (kids_of v.0) i (omega arith) in
          let inside = ok.within k v.0 i v.1 (omega arith) in
          subst Own (sym at) (
            own g ok reps s (slice_index (kids_of v.0) i) inside,
            (within g ok reps s (length g) (slice_index (kids_of v.0) i) (omega arith) inside).1,
          )

  all_own : Every Own (all_left (replaced g reps))
  all_own = every_left (kids_at (replaced g reps)) Own own_kid (length (replaced g reps)) [] 0 tt
      (first_stands g ok reps s, some_here)

  long : length (numbered_of (replaced g reps)) ≡ length (all_left (replaced g reps))
  long = long_vertices
      (λ k. renamed (place (all_left (replaced g reps))) (vertex_at (replaced g reps) k))
      (all_left (replaced g reps))

  -- the vertex of the graph that is vertex j of the smaller one
  pub record Origin (j : ℕ) : Type 0 where
    pub number : ℕ
    pub vertex : Vertex
    pub inside : number < length g
    pub itself : slice_index reps number ≡ number
    pub is : slice_get g number ≡ Some vertex
    pub is_at : number ≡ slice_index (all_left (replaced g reps)) j
    pub place_is : place (all_left (replaced g reps)) number ≡ j
    pub there : slice_get (numbered_of (replaced g reps)) j
        ≡ Some (renamed (place (all_left (replaced g reps))) (renamed (slice_index reps) vertex))

  pub origin : (j : ℕ) → j < length (numbered_of (replaced g reps)) → Origin j
  origin j low = go (slice_index (all_left (replaced g reps)) j) refl
    where
      go : (x : ℕ) → slice_index (all_left (replaced g reps)) j ≡ x → Origin j
      go x e =
          let l = long in
          let has : Own x =
          subst Own e (every_at Own (all_left (replaced g reps)) j all_own (omega arith)) in
          let v = there_is g x has.1 in
          let here : slice_get (replaced g reps) x ≡ Some (renamed (slice_index reps) v.0) =
          got_map (renamed (slice_index reps)) g x v.0 v.1 in
          record {
            number = x;
            vertex = v.0;
            inside = has.1;
            itself = has.0;
            is = v.1;
            is_at = sym e;
            place_is = ap (place (all_left (replaced g reps))) (sym e)
                ∙ place_at (kids_at (replaced g reps)) (all_left (replaced g reps)) j is_closed
                (omega arith);
            there =
                got_map_vertex (λ k. renamed (place (all_left (replaced g reps)))
                (vertex_at (replaced g reps) k)) (all_left (replaced g reps)) j (omega arith)
                ∙ ap (λ (k : ℕ). Some
                (renamed (place (all_left (replaced g reps))) (vertex_at (replaced g reps) k)))
                e
                ∙ ap (λ (o : Option Vertex). Some
                (renamed (place (all_left (replaced g reps))) (unwrap_or o End))) here;
          }

  -- what a vertex of the smaller graph is in the graph
  pub origin_of : (j : ℕ) (w : Vertex) → slice_get (numbered_of (replaced g reps)) j ≡ Some w
      → (o : Origin j)
      × (w ≡ renamed (place (all_left (replaced g reps))) (renamed (slice_index reps) o.vertex))
  origin_of j w is = let o = origin j (read_within (numbered_of (replaced g reps)) j w is) in (
    o,
    same_some (slice_get (numbered_of (replaced g reps)) j) w
        (renamed (place (all_left (replaced g reps))) (renamed (slice_index reps) o.vertex)) is
        o.there,
  )

  was_begin : (a b : ℕ → ℕ) (v : Vertex) (next : ℕ) → Begin next ≡ renamed a (renamed b v)
      → (n : ℕ) × (v ≡ Begin n)
  was_begin a b (Begin n) next e = (n, refl)
  was_begin a b (Test var kids) next e =
      absurd (let f : Begin next ≡ Test var (map a (map b kids)) = e in cc)
  was_begin a b (Assign result code n) next e =
      absurd (let f : Begin next ≡ Assign result code (a (b n)) = e in cc)
  was_begin a b End next e = absurd (let f : Begin next ≡ End = e in cc)

  was_end : (a b : ℕ → ℕ) (v : Vertex) → End ≡ renamed a (renamed b v) → v ≡ End
  was_end a b (Begin n) e = absurd (let f : End ≡ Begin (a (b n)) = e in cc)
  was_end a b (Test var kids) e = absurd (let f : End ≡ Test var (map a (map b kids)) = e in cc)
  was_end a b (Assign result code n) e =
      absurd (let f : End ≡ Assign result code (a (b n)) = e in cc)
  was_end a b End e = refl

  was_test : (a b : ℕ → ℕ) (v : Vertex) (var : ℕ) (kids : List ℕ)
      → Test var kids ≡ renamed a (renamed b v)
      → (ks : List ℕ) × (v ≡ Test var ks) × (length kids ≡ length ks)
  was_test a b (Begin n) var kids e = absurd (let f : Test var kids ≡ Begin (a (b n)) = e in cc)
  was_test a b (Test w ks) var kids e =
      let f : Test var kids ≡ Test w (map a (map b ks)) = e in
      let same_var : var ≡ w = cc in
      let same_kids : kids ≡ map a (map b ks) = cc in (
        ks,
        ap (λ (n : ℕ). Test n ks) (sym same_var),
        ap (λ (xs : List ℕ). length xs) same_kids
            ∙ long_map a (map b ks) ∙ long_map b ks,
      )
  was_test a b (Assign result code n) var kids e =
      absurd (let f : Test var kids ≡ Assign result code (a (b n)) = e in cc)
  was_test a b End var kids e = absurd (let f : Test var kids ≡ End = e in cc)

  pub was_assign : (a b : ℕ → ℕ) (v : Vertex) (result code next : ℕ)
      → Assign result code next ≡ renamed a (renamed b v) → (n : ℕ) × (v ≡ Assign result code n)
  was_assign a b (Begin n) result code next e =
      absurd (let f : Assign result code next ≡ Begin (a (b n)) = e in cc)
  was_assign a b (Test var kids) result code next e =
      absurd (let f : Assign result code next ≡ Test var (map a (map b kids)) = e in cc)
  was_assign a b (Assign y c n) result code next e =
      let f : Assign result code next ≡ Assign y c (a (b n)) = e in
      let same_result : result ≡ y = cc in
      let same_code : code ≡ c = cc in (
        n,
        ap (λ (z : ℕ). Assign z c n) (sym same_result)
            ∙ ap (λ (z : ℕ). Assign result z n) (sym same_code),
      )
  was_assign a b End result code next e = absurd (let f : Assign result code next ≡ End = e in cc)

  -- ---- it is a graph
  edge : (k : ℕ) (v : Vertex) (j : ℕ) → slice_get (numbered_of (replaced g reps)) k ≡ Some v
      → j < length (kids_of v) → (k < slice_index (kids_of v) j)
      × (slice_index (kids_of v) j < length (numbered_of (replaced g reps)))
  edge k v j is low =
      let kids : kids_at (numbered_of (replaced g reps)) k ≡ kids_of v = ap kids_in is in
      let same = ap (λ (ks : List ℕ). length ks) kids in
      let at = ap (λ (ks : List ℕ). slice_index ks j) kids in
      let up = again_rises (replaced g reps) some rising k j (omega arith) in
      let a = up.0 in
      let b = up.1 in
      let l = long in
      (omega arith, omega arith)

  only_begin : (k next : ℕ) → slice_get (numbered_of (replaced g reps)) k ≡ Some (Begin next)
      → k ≡ 0
  only_begin k next is =
      let o = origin_of k (Begin next) is in
      let was = was_begin (place (all_left (replaced g reps))) (slice_index reps) o.0.vertex next
      o.1 in
      let zero_there =
      ok.only_begin o.0.number was.0 (o.0.is ∙ ap (λ (v : Vertex). Some v) was.1) in
      sym o.0.place_is ∙ ap (place (all_left (replaced g reps))) zero_there
      ∙ first_zero (replaced g reps) some rising

  some_kid : (k var : ℕ) (kids : List ℕ)
      → slice_get (numbered_of (replaced g reps)) k ≡ Some (Test var kids) → 0 < length kids
  some_kid k var kids is =
      let o = origin_of k (Test var kids) is in
      let was = was_test (place (all_left (replaced g reps))) (slice_index reps) o.0.vertex var kids
      o.1 in
      let there = ok.some_kid o.0.number var was.0 (o.0.is ∙ ap (λ (v : Vertex). Some v) was.1) in
      let e = was.2 in
      omega arith

  last_end : (k : ℕ) (v : Vertex) → slice_get (numbered_of (replaced g reps)) k ≡ Some v
      → k + 1 ≡ length (numbered_of (replaced g reps)) → v ≡ End
  last_end k (Begin next) is e =
      absurd (let up = edge k (Begin next) 0 is (omega arith) in let a = up.0 in let b = up.1 in
      omega arith)
  last_end k (Test var kids) is e =
      absurd (let up = edge k (Test var kids) 0 is (some_kid k var kids is) in let a = up.0 in
      let b = up.1 in omega arith)
  last_end k (Assign result code next) is e =
      absurd (let up = edge k (Assign result code next) 0 is (omega arith) in let a = up.0 in
      let b = up.1 in omega arith)
  last_end k End is e = refl

  one_end : (j k : ℕ) → slice_get (numbered_of (replaced g reps)) j ≡ Some End
      → slice_get (numbered_of (replaced g reps)) k ≡ Some End → j ≡ k
  one_end j k at_j at_k =
      let a = origin_of j End at_j in
      let b = origin_of k End at_k in
      let end_a = ok.only_end a.0.number
      (a.0.is ∙ ap (λ (v : Vertex). Some v)
      (was_end (place (all_left (replaced g reps))) (slice_index reps) a.0.vertex a.1)) in
      let end_b = ok.only_end b.0.number
      (b.0.is ∙ ap (λ (v : Vertex). Some v)
      (was_end (place (all_left (replaced g reps))) (slice_index reps) b.0.vertex b.1)) in
      let same : a.0.number ≡ b.0.number = omega arith in
      sym a.0.place_is ∙ ap (place (all_left (replaced g reps))) same ∙ b.0.place_is

  is_numbered : Numbered (numbered_of (replaced g reps))
  is_numbered = again (replaced g reps) some rising

  pub had_reached : (j : ℕ) → j < length (numbered_of (replaced g reps))
      → (k : ℕ) × (k < length g) × (has (all_left g) k ≡ true)
      × (place (all_left (replaced g reps)) (slice_index reps k) ≡ j)
  had_reached = had g (numbered_of (replaced g reps))
      (λ k. place (all_left (replaced g reps)) (slice_index reps k)) (has (all_left g)) ok shrinks
      first is_numbered

  pub is_graph : IsGraph (numbered_of (replaced g reps))
  is_graph = record {
    begin = (
      place (all_left (replaced g reps)) (slice_index reps ok.begin.0),
      shrinks.begin ok.begin.0 ok.begin.1,
    );
    only_begin = only_begin;
    end = λ k e. let v = there_is (numbered_of (replaced g reps)) k (omega arith) in
        v.1 ∙ ap (λ (w : Vertex). Some w) (last_end k v.0 v.1 e);
    only_end = λ k is.
        let low = read_within (numbered_of (replaced g reps)) k End is in
        let last : ℕ = length (numbered_of (replaced g reps)) - 1 in
        let e : last + 1 ≡ length (numbered_of (replaced g reps)) = omega arith in
        let v = there_is (numbered_of (replaced g reps)) last (omega arith) in
        let same = one_end k last is
        (v.1 ∙ ap (λ (w : Vertex). Some w) (last_end last v.0 v.1 e)) in
        omega arith;
    above = λ k v j is low. (edge k v j is low).0;
    within = λ k v j is low. (edge k v j is low).1;
    some_kid = some_kid;
    assigns_once = λ path walk.
        let more = lifted g (numbered_of (replaced g reps))
        (λ k. place (all_left (replaced g reps)) (slice_index reps k)) (has (all_left g)) ok
        shrinks first assigned_by refl
        (same_assigned (λ k. place (all_left (replaced g reps)) (slice_index reps k)))
        had_reached path walk in
        part_different (filter_map (λ k. assigned_by (slice_get (numbered_of (replaced g reps)) k))
        path) (filter_map (λ k. assigned_by (slice_get g k)) more.0) more.2
        (ok.assigns_once more.0 more.1);
  }

  -- ---- it keeps what the graph does
  distinct : (i j d : ℕ) → i < j → j < length (all_left (replaced g reps))
      → eqb (get_or (all_left (replaced g reps)) i d) (get_or (all_left (replaced g reps)) j d)
      ≡ false
  distinct i j d less low =
      let l = all_left (replaced g reps) in
      ne_eqb (get_or l i d) (get_or l j d) (λ same.
      let e : slice_index l i ≡ slice_index l j =
      sym (get_or_default l i d 0 (omega arith)) ∙ same ∙ get_or_default l j d 0 low in
      let a = place_at (kids_at (replaced g reps)) l i is_closed (omega arith) in
      let b = place_at (kids_at (replaced g reps)) l j is_closed low in
      let f = ap (place l) e in
      absurd (omega arith))

  low_any : (xs : List ℕ) → Every Own xs → (q : ℕ) → list_any (eqb q) xs ≡ true → q < length g
  low_any [] all q found = absurd (false≢true found)
  low_any (x ∷ xs) all q found =
      ⊎_elim
      (λ here. let e = eqb-true q x here in let b = all.0.1 in omega arith)
      (λ later. low_any xs all.1 q later)
      (or_cases (eqb q x) (list_any (eqb q) xs) found)

  fewer_than_all : length (numbered_of (replaced g reps)) ≤ length g
  fewer_than_all =
      let l = long in
      let few = length-le_from_distinct_below (all_left (replaced g reps)) (length g)
      (IsDistinct-from_apart eqb (all_left (replaced g reps)) distinct)
      (low_any (all_left (replaced g reps)) all_own) in
      omega arith

  fewer : length (numbered_of (replaced g reps)) ≤ length (all_left g)
  fewer = few (length (numbered_of (replaced g reps)))
      (λ k. place (all_left (replaced g reps)) (slice_index reps k)) (all_left g)
      (λ j low. let from = had_reached j low in (from.0, from.2, from.3))

  -- the reached vertex of the graph that does what vertex j of the smaller one does
  from_reached : (j : ℕ) (w : Vertex) → slice_get (numbered_of (replaced g reps)) j ≡ Some w
      → (k : ℕ) × (v : Vertex) × (has (all_left g) k ≡ true) × (slice_get g k ≡ Some v)
      × (w ≡ renamed (λ k. place (all_left (replaced g reps)) (slice_index reps k)) v)
  from_reached j w is =
      let o = source g (numbered_of (replaced g reps))
      (λ k. place (all_left (replaced g reps)) (slice_index reps k)) (has (all_left g)) ok shrinks
      first is_numbered j (read_within (numbered_of (replaced g reps)) j w is) in (
        o.number,
        o.vertex,
        o.on,
        o.is,
        same_some (slice_get (numbered_of (replaced g reps)) j) w
            (renamed (λ k. place (all_left (replaced g reps)) (slice_index reps k)) o.vertex) is
            o.there,
      )

  fits_machine : (m : Machine) → FitsReached m g → FitsMachine m (numbered_of (replaced g reps))
  fits_machine m fit = record {
    tests = λ k var kids is.
        let o = from_reached k (Test var kids) is in
        let was = test_once (λ k. place (all_left (replaced g reps)) (slice_index reps k)) o.1 var
        kids o.4 in
        let there = fit.tests o.0 var was.0 o.2 (o.3 ∙ ap (λ (v : Vertex). Some v) was.1) in
        (there.0, was.2 ∙ there.1);
    assigns = λ k result code next is.
        let o = from_reached k (Assign result code next) is in
        let was = assign_once (λ k. place (all_left (replaced g reps)) (slice_index reps k)) o.1
        result code next o.4 in
        fit.assigns o.0 result code was.0 o.2 (o.3 ∙ ap (λ (v : Vertex). Some v) was.1);
    codes = λ k result code next is.
        let o = from_reached k (Assign result code next) is in
        let was = assign_once (λ k. place (all_left (replaced g reps)) (slice_index reps k)) o.1
        result code next o.4 in
        fit.codes o.0 result code was.0 o.2 (o.3 ∙ ap (λ (v : Vertex). Some v) was.1);
  }

  pub keeps : Keeps g (numbered_of (replaced g reps))
  keeps = record {
    fits_machine = fits_machine;
    evaluates = λ m snap fit codes.
        same_outcome m g (numbered_of (replaced g reps))
        (λ k. place (all_left (replaced g reps)) (slice_index reps k)) (has (all_left g)) snap ok
        is_graph.above shrinks first (λ k var kids on is.
        let there = fit.tests k var kids on is in
        let low = below_size m.vars snap var codes there.0 in
        let e = there.1 in
        omega arith) some_here;
    ordered = λ n order goes path walk.
        let more = lifted g (numbered_of (replaced g reps))
        (λ k. place (all_left (replaced g reps)) (slice_index reps k)) (has (all_left g)) ok
        shrinks first (item_of n) refl
        (same_item n (λ k. place (all_left (replaced g reps)) (slice_index reps k))) had_reached
        path walk in
        part_rises (place order)
        (filter_map (λ k. item_of n (slice_get (numbered_of (replaced g reps)) k)) path)
        (filter_map (λ k. item_of n (slice_get g k)) more.0) more.2
        (ordered_path g n order goes more.0 more.3 more.1);
    once = λ goes path walk.
        let more = lifted g (numbered_of (replaced g reps))
        (λ k. place (all_left (replaced g reps)) (slice_index reps k)) (has (all_left g)) ok
        shrinks first tested_by refl
        (same_tested (λ k. place (all_left (replaced g reps)) (slice_index reps k))) had_reached
        path walk in
        part_different (filter_map (λ k. tested_by (slice_get (numbered_of (replaced g reps)) k))
        path) (filter_map (λ k. tested_by (slice_get g k)) more.0) more.2
        (once_path g goes more.0 more.3 more.1);
    fewer = fewer;
    fewer_than_all = fewer_than_all;
    numbered = is_numbered;
  }
