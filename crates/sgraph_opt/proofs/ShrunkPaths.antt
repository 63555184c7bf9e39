-- A path of a graph that shrank is a part of a path of the graph.
use Rattle.std.proofs.Common.{◌≡◌, ◌⊎◌, inl, inr, ⊎_elim, ℕ, zero, suc, ◌+◌, ◌<◌, ◌≤◌, Bool, true, not, List, [], ◌∷◌, map, length, slice_get, slice_index, Option, Some, None, refl, ap, sym, subst, ◌∙◌, arith, eqb, ltb}
use Rattle.std.specs.Prelude.{Contains, ⊤, slice_index_or, filter_map}
use Rattle.std.specs.List.{cons_option}
use Rattle.std.proofs.lemmas.Bool.{and_parts, and_from, ltb-true, lt-ltb, or_cases, or_left, or_right, true≢false, false≢true, false_from_ne_true}
use Rattle.transition_table.specs.NetworkFacts.{has, are_different}
use Rattle.sgraph.specs.declared.vertex.Vertex.{Vertex}
use Rattle.sgraph.specs.declared.vertex.Vertex.TheVariants.{Begin, Test, Assign, End}
use Rattle.sgraph.specs.Facts.{IsGraph}
use Rattle.sgraph.specs.Graphs.{kids_of, kids_in, kids_at, IsPath, rises}
use Rattle.sgraph_opt.specs.inner.Representatives.{renamed}
use Rattle.sgraph_opt.specs.inner.Shrinking.{Shrinks}
use Rattle.sgraph_opt.proofs.NumberedOf.{kids_renamed}
use Rattle.sgraph_opt.proofs.ShrunkKids.{some_child}
use Rattle.sgraph_opt.proofs.Standing.{vertex_there}
use Rattle.sgraph.proofs.IsGraph.{rises_tail}
use Rattle.polis_base.proofs.Places.{contains_at}

-- ---- parts of lists
-- the first list arises from the second one by leaving items out
abbrev pub Part : List ℕ → List ℕ → Type 0
Part [] ys = ⊤
Part (x ∷ xs) [] = ⊥
Part (x ∷ xs) (y ∷ ys) = ((x ≡ y) × Part xs ys) ⊎ Part (x ∷ xs) ys

part_more : (y : ℕ) (xs ys : List ℕ) → Part xs ys → Part xs (y ∷ ys)
part_more y [] ys p = tt
part_more y (x ∷ xs) ys p = inr p

part_option : (o : Option ℕ) (xs ys : List ℕ) → Part xs ys → Part xs (cons_option o ys)
part_option None xs ys p = p
part_option (Some y) xs ys p = part_more y xs ys p

part_both : (o : Option ℕ) (xs ys : List ℕ) → Part xs ys
    → Part (cons_option o xs) (cons_option o ys)
part_both None xs ys p = p
part_both (Some y) xs ys p = inl (refl, p)

part_has : (xs ys : List ℕ) (n : ℕ) → Part xs ys → has xs n ≡ true → has ys n ≡ true
part_has [] ys n p h = absurd (false≢true h)
part_has (x ∷ xs) [] n p h = absurd p
part_has (x ∷ xs) (y ∷ ys) n (inl both) h =
    ⊎_elim
    (λ own. or_left (eqb y n) (has ys n) (ap (λ (m : ℕ). eqb m n) (sym both.0) ∙ own))
    (λ rest. or_right (eqb y n) (has ys n) (part_has xs ys n both.1 rest))
    (or_cases (eqb x n) (has xs n) h)
part_has (x ∷ xs) (y ∷ ys) n (inr p) h = or_right (eqb y n) (has ys n) (part_has (x ∷ xs) ys n p h)

-- a part of different numbers
pub part_different : (xs ys : List ℕ) → Part xs ys → are_different ys ≡ true
    → are_different xs ≡ true
part_different [] ys p h = refl
part_different (x ∷ xs) [] p h = absurd p
part_different (x ∷ xs) (y ∷ ys) (inl both) h =
    let parts = and_parts (not (has ys y)) (are_different ys) h in
    and_from (not (has xs x)) (are_different xs)
    (ap not (false_from_ne_true (has xs x)
    (λ on. true≢false
    (sym parts.0 ∙ ap not (ap (has ys) (sym both.0) ∙ part_has xs ys x both.1 on)))))
    (part_different xs ys both.1 parts.1)
part_different (x ∷ xs) (y ∷ ys) (inr p) h =
    part_different (x ∷ xs) ys p (and_parts (not (has ys y)) (are_different ys) h).1

above : (f : ℕ → ℕ) (b x : ℕ) (xs ys : List ℕ) → Part (x ∷ xs) ys → rises (b ∷ map f ys) ≡ true
    → b < f x
above f b x xs [] p h = absurd p
above f b x xs (y ∷ ys) (inl both) h =
    let e = ap f both.0 in
    let less = ltb-true b (f y) (and_parts (ltb b (f y)) (rises (f y ∷ map f ys)) h).0 in
    omega arith
above f b x xs (y ∷ ys) (inr p) h =
    let parts = and_parts (ltb b (f y)) (rises (f y ∷ map f ys)) h in
    let less = ltb-true b (f y) parts.0 in
    let rest = above f (f y) x xs ys p parts.1 in
    omega arith

pub part_rises : (f : ℕ → ℕ) (xs ys : List ℕ) → Part xs ys → rises (map f ys) ≡ true
    → rises (map f xs) ≡ true
part_rises f [] ys p h = refl
part_rises f (x ∷ xs) [] p h = absurd p
part_rises f (x ∷ []) (y ∷ ys) (inl both) h = refl
part_rises f (x ∷ z ∷ xs) (y ∷ ys) (inl both) h =
    let e = ap f both.0 in
    let up = above f (f y) z xs ys both.1 h in
    and_from (ltb (f x) (f z)) (rises (f z ∷ map f xs)) (lt-ltb (f x) (f z) (omega arith))
    (part_rises f (z ∷ xs) ys both.1 (rises_tail (f y) (map f ys) h))
part_rises f (x ∷ xs) (y ∷ ys) (inr p) h =
    part_rises f (x ∷ xs) ys p (rises_tail (f y) (map f ys) h)

-- ---- paths
contained : (xs : List ℕ) (n : ℕ) → Contains xs n
    → (i : ℕ) × (i < length xs) × (slice_index xs i ≡ n)
contained xs n there = (there.0, there.1, default_too xs there.0 n there.1 ∙ there.2)
  where
    default_too : (xs : List ℕ) (i d : ℕ) → i < length xs → slice_index xs i ≡ slice_index_or xs i d
    default_too [] i d low = absurd (omega arith)
    default_too (x ∷ xs) zero d low = refl
    default_too (x ∷ xs) (suc i) d low = default_too xs i d (omega arith)

item_mapped : (f : ℕ → ℕ) (xs : List ℕ) (i : ℕ) → i < length (map f xs)
    → (i < length xs) × (slice_index (map f xs) i ≡ f (slice_index xs i))
item_mapped f [] i low = absurd (omega arith)
item_mapped f (x ∷ xs) zero low = (omega arith, refl)
item_mapped f (x ∷ xs) (suc i) low = let r = item_mapped f xs i (omega arith) in
    (omega (arith, r.0), r.1)

-- the first vertex of a path, where there is one, is one of these
abbrev pub BeginsWith : (ℕ → Bool) → List ℕ → Type 0
BeginsWith some [] = ⊤
BeginsWith some (k ∷ path) = some k ≡ true

-- what a path shows, where each vertex shows a number or none
abbrev pub shown : (Option Vertex → Option ℕ) → List Vertex → List ℕ → List ℕ
shown f g path = filter_map (λ k. f (slice_get g k)) path

module _ (g h : List Vertex) (to : ℕ → ℕ) (some : ℕ → Bool) (ok : IsGraph g)
    (shrinks : Shrinks g h to some) (first : to 0 ≡ 0) (f : Option Vertex → Option ℕ) (none : f None ≡ None) (same : (v : Vertex)
    → f (Some (renamed to v)) ≡ f (Some v)) where
  -- a path of the graph from vertex k of which that of the smaller graph is a part
  abbrev Lifted : ℕ → List ℕ → Type 0
  Lifted k path = (more : List ℕ) × IsPath g (k ∷ more)
      × Part (shown f h (to k ∷ path)) (shown f g (k ∷ more))

  abbrev Lifts : ℕ → Type 0
  Lifts k = some k ≡ true → (path : List ℕ) → IsPath h (to k ∷ path) → Lifted k path

  real : (k : ℕ) (v : Vertex) → slice_get g k ≡ Some v → slice_get h (to k) ≡ Some (renamed to v)
      → ((j : ℕ) → k < j → j < length g → Lifts j) → Lifts k
  real k v is there later on [] path = (
    [],
    tt,
    subst (λ (o : Option ℕ). Part (cons_option o [])
        (cons_option (f (slice_get g k)) [])) (ap f is ∙ sym (same v) ∙ ap f (sym there))
        (part_both (f (slice_get g k)) [] [] tt),
  )
  real k v is there later on (j ∷ path) walk =
      let kids : kids_at h (to k) ≡ map to (kids_of v) = ap kids_in there ∙ kids_renamed to v in
      let found = contained (map to (kids_of v)) j
      (subst (λ (ks : List ℕ). Contains ks j) kids walk.0) in
      let item = item_mapped to (kids_of v) found.0 found.1 in
      let kid : ℕ = slice_index (kids_of v) found.0 in
      let e : to kid ≡ j = sym item.1 ∙ found.2 in
      let rest = later kid (ok.above k v found.0 is item.0) (ok.within k v found.0 is item.0)
      (some_child g h to some shrinks k found.0 v is on item.0) path
      (subst (λ (n : ℕ). IsPath h (n ∷ path)) (sym e) walk.1) in
      let here : Contains (kids_at g k) kid =
      subst (λ (ks : List ℕ). Contains ks kid) (sym (ap kids_in is))
      (contains_at (kids_of v) found.0 item.0) in
      let part : Part (shown f h (j ∷ path)) (shown f g (kid ∷ rest.0)) =
      subst (λ (n : ℕ). Part (shown f h (n ∷ path)) (shown f g (kid ∷ rest.0))) e rest.2 in (
        kid ∷ rest.0,
        (here, rest.1),
        subst
            (λ (o : Option ℕ). Part (cons_option o (shown f h (j ∷ path)))
            (cons_option (f (slice_get g k)) (shown f g (kid ∷ rest.0))))
            (ap f is ∙ sym (same v) ∙ ap f (sym there))
            (part_both (f (slice_get g k)) (shown f h (j ∷ path)) (shown f g (kid ∷ rest.0)) part),
      )

  -- where the first child's vertex stands for it
  passed : (k i : ℕ) (v : Vertex) → slice_get g k ≡ Some v → i < length (kids_of v)
      → to (slice_index (kids_of v) i) ≡ to k → ((j : ℕ) → k < j → j < length g → Lifts j) → Lifts k
  passed k i v is low e later on path walk =
      let kid : ℕ = slice_index (kids_of v) i in
      let rest = later kid (ok.above k v i is low) (ok.within k v i is low)
      (some_child g h to some shrinks k i v is on low) path
      (subst (λ (n : ℕ). IsPath h (n ∷ path)) (sym e) walk) in
      let here : Contains (kids_at g k) kid =
      subst (λ (ks : List ℕ). Contains ks kid) (sym (ap kids_in is))
      (contains_at (kids_of v) i low) in
      let part : Part (shown f h (to k ∷ path)) (shown f g (kid ∷ rest.0)) =
      subst (λ (n : ℕ). Part (shown f h (n ∷ path)) (shown f g (kid ∷ rest.0))) e rest.2 in (
        kid ∷ rest.0,
        (here, rest.1),
        part_option (f (slice_get g k)) (shown f h (to k ∷ path))
            (shown f g (kid ∷ rest.0)) part,
      )

  lift_any : (k : ℕ) → k < length g → ((j : ℕ) → k < j → j < length g → Lifts j)
      → (o : Option Vertex) → slice_get g k ≡ o → Lifts k
  lift_any k low later None is on = absurd (vertex_there g k low is)
  lift_any k low later (Some (Begin next)) is on =
      let zero_k = ok.only_begin k next is in
      real k (Begin next) is (ap (λ (j : ℕ). slice_get h (to j)) zero_k ∙ ap (slice_get h) first
      ∙ shrinks.begin next (ap (slice_get g) (sym zero_k) ∙ is)) later on
  lift_any k low later (Some (Test var kids)) is on =
      ⊎_elim
      (λ there. real k (Test var kids) is there later on)
      (λ idle. let one = ok.some_kid k var kids is in
      passed k 0 (Test var kids) is one (idle 0 one) later on)
      (shrinks.test k var kids on is)
  lift_any k low later (Some (Assign result code next)) is on =
      ⊎_elim
      (λ there. real k (Assign result code next) is there later on)
      (λ left. passed k 0 (Assign result code next) is (omega arith) left.1 later on)
      (shrinks.assign k result code next on is)
  lift_any k low later (Some End) is on = real k End is (shrinks.end k on is) later on

  lift : (bound k : ℕ) → length g ≤ k + bound → k < length g → Lifts k
  lift zero k e low = absurd (omega arith)
  lift (suc bound) k e low =
      lift_any k low (λ j up inside. lift bound j (omega arith) inside) (slice_get g k) refl

  -- any path of the smaller graph, where each of its vertices stands for one of these
  pub lifted : ((j : ℕ) → j < length h → (k : ℕ) × (k < length g) × (some k ≡ true) × (to k ≡ j))
      → (path : List ℕ) → IsPath h path
      → (more : List ℕ) × IsPath g more × Part (shown f h path) (shown f g more)
      × BeginsWith some more
  lifted reached [] walk = ([], tt, tt, tt)
  lifted reached (j ∷ path) walk = go (slice_get h j) refl path walk
    where
      inside : (vs : List Vertex) (k : ℕ) (v : Vertex) → slice_get vs k ≡ Some v → k < length vs
      inside [] k v is = cc
      inside (w ∷ vs) zero v is = omega arith
      inside (w ∷ vs) (suc k) v is = let r = inside vs k v is in omega arith

      go : (o : Option Vertex) → slice_get h j ≡ o → (path : List ℕ) → IsPath h (j ∷ path)
          → (more : List ℕ) × IsPath g more × Part (shown f h (j ∷ path)) (shown f g more)
          × BeginsWith some more
      go None is [] walk =
          ([], tt, subst (λ (o : Option ℕ). Part (cons_option o []) []) (sym (ap f is ∙ none)) tt, tt)
      go None is (i ∷ path) walk =
          absurd (let there = subst (λ (ks : List ℕ). Contains ks i) (ap kids_in is) walk.0 in
          omega (arith, there.1))
      go (Some v) is path walk =
          let from = reached j (inside h j v is) in
          let one = lift (length g) from.0 (omega arith) from.1 from.2 path
          (subst (λ (n : ℕ). IsPath h (n ∷ path)) (sym from.3) walk) in (
            from.0 ∷ one.0,
            one.1,
            subst (λ (n : ℕ). Part (shown f h (n ∷ path)) (shown f g (from.0 ∷ one.0))) from.3
                one.2,
            from.2,
          )
