-- Lists in which each vertex may stand where it does.
use Rattle.std.proofs.Common.{◌≡◌, ℕ, zero, suc, ◌+◌, ◌<◌, Bool, true, ◌&&◌, List, [], ◌∷◌, length, slice_get, slice_index, Some, refl, arith, eqb, ltb}
use Rattle.std.specs.List.{list_all}
use Rattle.std.proofs.lemmas.Bool.{and_parts, eqb-true, ltb-true}
use Rattle.sgraph.specs.declared.vertex.Vertex.{Vertex}
use Rattle.sgraph.specs.declared.vertex.Vertex.TheVariants.{Begin, Test, Assign, End}
use Rattle.sgraph.specs.Facts.{stands_well, stand_well, is_well_made}
use Rattle.sgraph.specs.Graphs.{kids_of}
use Rattle.sgraph.specs.Laws.{EdgesMakeGraph, FitsByTest}
use Rattle.sgraph.specs.Walks.{fits_one}
use Rattle.sgraph.proofs.Edges.{edges_order, got_all}
use Rattle.sgraph.proofs.IsGraph.{once_assigned}

well_at : (count k i : ℕ) (vs : List Vertex) (v : Vertex) → stand_well count k vs ≡ true
    → slice_get vs i ≡ Some v → stands_well count (k + i) v ≡ true
well_at count k i [] v h is = cc
well_at count k zero (w ∷ vs) v h is =
    let same : w ≡ v = cc in
    let e : k ≡ k + 0 = omega arith in
    rw (← e, ← same) (and_parts (stands_well count k w) (stand_well count (suc k) vs) h).0
well_at count k (suc i) (w ∷ vs) v h is =
    let e : suc k + i ≡ k + suc i = omega arith in
    rw (← e) (well_at count (suc k) i vs v
    (and_parts (stands_well count k w) (stand_well count (suc k) vs) h).1 is)

kid_at : (p : ℕ → Bool) (xs : List ℕ) (j : ℕ) → list_all p xs ≡ true → j < length xs
    → p (slice_index xs j) ≡ true
kid_at p [] j h low = absurd (omega arith)
kid_at p (x ∷ xs) zero h low = (and_parts (p x) (list_all p xs) h).0
kid_at p (x ∷ xs) (suc j) h low = kid_at p xs j (and_parts (p x) (list_all p xs) h).1 (omega arith)

between : (k j count : ℕ) → (ltb k j && ltb j count) ≡ true → (k < j) × (j < count)
between k j count h = let parts = and_parts (ltb k j) (ltb j count) h in
    (ltb-true k j parts.0, ltb-true j count parts.1)

module _ (g : List Vertex) (ok : is_well_made g ≡ true) where
  some : 1 < length g
  some = ltb-true 1 (length g) (and_parts (ltb 1 (length g)) (stand_well (length g) 0 g) ok).0

  at : (k : ℕ) (v : Vertex) → slice_get g k ≡ Some v → stands_well (length g) k v ≡ true
  at k v is =
      let e : 0 + k ≡ k = omega arith in
      rw e at (well_at (length g) 0 k g v
      (and_parts (ltb 1 (length g)) (stand_well (length g) 0 g) ok).1 is)

  begins : (k next : ℕ) → stands_well (length g) k (Begin next) ≡ true
      → (k ≡ 0) × (k < next) × (next < length g)
  begins k next h =
      let parts = and_parts (eqb k 0 && ltb k next) (ltb next (length g)) h in
      let first = and_parts (eqb k 0) (ltb k next) parts.0 in
      (eqb-true k 0 first.0, ltb-true k next first.1, ltb-true next (length g) parts.1)

  assigns : (k result code next : ℕ) → stands_well (length g) k (Assign result code next) ≡ true
      → (0 < k) × (k < next) × (next < length g)
  assigns k result code next h =
      let parts = and_parts (ltb 0 k && ltb k next) (ltb next (length g)) h in
      let first = and_parts (ltb 0 k) (ltb k next) parts.0 in
      (ltb-true 0 k first.0, ltb-true k next first.1, ltb-true next (length g) parts.1)

  tests : (k var : ℕ) (kids : List ℕ) → stands_well (length g) k (Test var kids) ≡ true
      → (0 < k) × (0 < length kids)
      × ((j : ℕ) → j < length kids → (k < slice_index kids j) × (slice_index kids j < length g))
  tests k var kids h =
      let parts = and_parts (ltb 0 k && ltb 0 (length kids))
      (list_all (λ j. ltb k j && ltb j (length g)) kids) h in
      let first = and_parts (ltb 0 k) (ltb 0 (length kids)) parts.0 in (
        ltb-true 0 k first.0,
        ltb-true 0 (length kids) first.1,
        λ j low. between k (slice_index kids j) (length g)
            (kid_at (λ j. ltb k j && ltb j (length g)) kids j parts.1 low),
      )

  ends : (k : ℕ) → stands_well (length g) k End ≡ true → (0 < k) × (k + 1 ≡ length g)
  ends k h =
      let parts = and_parts (ltb 0 k) (eqb (k + 1) (length g)) h in
      (ltb-true 0 k parts.0, eqb-true (k + 1) (length g) parts.1)

  kid : (k : ℕ) (v : Vertex) (j : ℕ) → stands_well (length g) k v ≡ true → j < length (kids_of v)
      → (k < slice_index (kids_of v) j) × (slice_index (kids_of v) j < length g)
  kid k (Begin next) zero h low = let b = begins k next h in (b.1, b.2)
  kid k (Begin next) (suc j) h low = absurd (omega arith)
  kid k (Test var kids) j h low = (tests k var kids h).2 j low
  kid k (Assign result code next) zero h low = let b = assigns k result code next h in (b.1, b.2)
  kid k (Assign result code next) (suc j) h low = absurd (omega arith)
  kid k End j h low = absurd (omega arith)

  there_is : (vs : List Vertex) (n : ℕ) → n < length vs → (v : Vertex) × (slice_get vs n ≡ Some v)
  there_is [] n low = absurd (omega arith)
  there_is (v ∷ vs) zero low = (v, refl)
  there_is (v ∷ vs) (suc n) low = there_is vs n (omega arith)

  first : (v : Vertex) → slice_get g 0 ≡ Some v → (next : ℕ) × (slice_get g 0 ≡ Some (Begin next))
  first (Begin next) is = (next, is)
  first (Test var kids) is =
      absurd (let h = (tests 0 var kids (at 0 (Test var kids) is)).0 in omega arith)
  first (Assign result code next) is =
      absurd (let h = (assigns 0 result code next (at 0 (Assign result code next) is)).0 in
      omega arith)
  first End is = absurd (let h = (ends 0 (at 0 End is)).0 in omega arith)

  last : (k : ℕ) (v : Vertex) → slice_get g k ≡ Some v → k + 1 ≡ length g → slice_get g k ≡ Some End
  last k (Begin next) is e =
      absurd (let h = begins k next (at k (Begin next) is) in let up = h.1 in let low = h.2 in
      omega arith)
  last k (Test var kids) is e =
      absurd (
      let h = tests k var kids (at k (Test var kids) is) in
      let one = h.2 0 h.1 in
      let up = one.0 in
      let low = one.1 in
      omega arith)
  last k (Assign result code next) is e =
      absurd (let h = assigns k result code next (at k (Assign result code next) is) in
      let up = h.1 in let low = h.2 in omega arith)
  last k End is e = is

pub edges_make_graph : EdgesMakeGraph
edges_make_graph n order g rises ok =
    let zero_there = there_is g ok g 0 (let h = some g ok in omega arith) in
    record {
      begin = first g ok zero_there.0 zero_there.1;
      only_begin = λ k next is. (begins g ok k next (at g ok k (Begin next) is)).0;
      end = λ k e. let v = there_is g ok g k (omega arith) in last g ok k v.0 v.1 e;
      only_end = λ k is. (ends g ok k (at g ok k End is)).1;
      above = λ k v j is low. (kid g ok k v j (at g ok k v is) low).0;
      within = λ k v j is low. (kid g ok k v j (at g ok k v is) low).1;
      some_kid = λ k var kids is. (tests g ok k var kids (at g ok k (Test var kids) is)).1;
      assigns_once = once_assigned n order g (edges_order n order g rises);
    }

pub fits_by_test : FitsByTest
fits_by_test m g h = record {
  tests = λ k var kids is.
      let one = got_all (fits_one m.vars m.results) g k (Test var kids) h is in
      let parts = and_parts (ltb var (length m.vars)) (eqb (length kids) (slice_index m.vars var))
      one in (
        ltb-true var (length m.vars) parts.0,
        eqb-true (length kids) (slice_index m.vars var) parts.1,
      );
  assigns = λ k result code next is.
      ltb-true result (length m.results)
      (and_parts (ltb result (length m.results)) (ltb code (slice_index m.results result))
      (got_all (fits_one m.vars m.results) g k (Assign result code next) h is)).0;
  codes = λ k result code next is.
      ltb-true code (slice_index m.results result)
      (and_parts (ltb result (length m.results)) (ltb code (slice_index m.results result))
      (got_all (fits_one m.vars m.results) g k (Assign result code next) h is)).1;
}
