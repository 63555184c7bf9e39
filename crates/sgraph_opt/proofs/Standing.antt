-- What stands for vertices, from one on.
use Rattle.std.proofs.Common.{◌≡◌, inl, inr, ⊎_elim, ℕ, zero, suc, ◌+◌, ◌<◌, ◌≤◌, true, List, ◌∷◌, map, length, replicate, slice_get, slice_index, slice_set, Option, Some, None, refl, ap, sym, subst, ◌∙◌, arith, []}
use Rattle.std.proofs.lemmas.Bool.{cases_eq}
use Rattle.sgraph.specs.declared.vertex.Vertex.{Vertex}
use Rattle.sgraph.specs.declared.vertex.Vertex.TheVariants.{Begin, Test, Assign, End}
use Rattle.sgraph.specs.Graphs.{kids_of, kids_in, kids_at}
use Rattle.sgraph_opt.specs.inner.Shrinking.{Shrinks}
use Rattle.sgraph.specs.Facts.{IsGraph}
use Rattle.sgraph_opt.specs.inner.Representatives.{renamed, IsTwin, IsRep, Standing}
use Rattle.sgraph_opt.specs.inner.Renumbering.{Rises}
use Rattle.sgraph.proofs.GraphOf.{set_there, long_zeros, map_numbers}
use Rattle.decision_diagram.proofs.ListItems.{read_within}
use Rattle.polis_base.proofs.Places.{index_set, length_set}

pub same_renamed : (to other : ℕ → ℕ) (v : Vertex)
    → ((i : ℕ) → i < length (kids_of v)
    → to (slice_index (kids_of v) i) ≡ other (slice_index (kids_of v) i))
    → renamed to v ≡ renamed other v
same_renamed to other (Begin next) h = ap Begin (h 0 (omega arith))
same_renamed to other (Test var kids) h = ap (Test var) (map_numbers to other kids h)
same_renamed to other (Assign result code next) h = ap (Assign result code) (h 0 (omega arith))
same_renamed to other End h = refl

module _ (g : List Vertex) (ok : IsGraph g) where
  pub later_kids : (to other : ℕ → ℕ) (k : ℕ) (v : Vertex) → slice_get g k ≡ Some v
      → ((j : ℕ) → k < j → to j ≡ other j) → (i : ℕ) → i < length (kids_of v)
      → to (slice_index (kids_of v) i) ≡ other (slice_index (kids_of v) i)
  later_kids to other k v is same i low = same (slice_index (kids_of v) i) (ok.above k v i is low)

  moved_twin : (to other : ℕ → ℕ) (k r : ℕ) (v : Vertex) → slice_get g k ≡ Some v
      → ((j : ℕ) → k < j → to j ≡ other j) → IsTwin g to k r v → IsTwin g other k r v
  moved_twin to other k r v is same t =
      let up : k < r = t.later in
      record {
        other = t.other;
        later = up;
        own = sym (same r up) ∙ t.own;
        is = t.is;
        same =
            sym (same_renamed to other t.other
            (later_kids to other r t.other t.is (λ j more. same j (omega arith))))
            ∙ t.same
            ∙ same_renamed to other v (later_kids to other k v is same);
      }

  pub moved : (to other : ℕ → ℕ) (k r : ℕ) (v : Vertex) → slice_get g k ≡ Some v
      → ((j : ℕ) → k < j → to j ≡ other j) → IsRep g to k r v → IsRep g other k r v
  moved to other k r (Begin next) is same h = h
  moved to other k r (Test var kids) is same h =
      ⊎_elim
      (λ own. inl own)
      (λ rest. ⊎_elim
      (λ idle. inr (inl (λ i low. sym (later_kids to other k (Test var kids) is same i low)
      ∙ idle i low)))
      (λ t. inr (inr (moved_twin to other k r (Test var kids) is same t)))
      rest)
      h
  moved to other k r (Assign result code next) is same h =
      ⊎_elim
      (λ own. inl own)
      (λ rest. ⊎_elim
      (λ left. inr (inl (
        left.0,
        sym (later_kids to other k (Assign result code next) is same 0 (omega arith))
            ∙ left.1,
      )))
      (λ t. inr (inr (moved_twin to other k r (Assign result code next) is same t)))
      rest)
      h
  moved to other k r End is same h = h

pub standing_start : (g : List Vertex) (reps : List ℕ) (i count : ℕ) → reps ≡ replicate count 0
    → count ≡ length g → i ≡ length g → Standing g reps i
standing_start g reps i count is all at = record {
  long = ap (λ (xs : List ℕ). length xs) is ∙ long_zeros count ∙ all;
  each = λ k v high is_v. absurd (let low = read_within g k v is_v in omega arith);
}

pub standing_more : (g : List Vertex) → IsGraph g → (reps more : List ℕ) (i k r : ℕ)
    → Standing g reps i → i ≡ k + 1 → k < length g
    → ((v : Vertex) → slice_get g k ≡ Some v → IsRep g (slice_index reps) k r v)
    → more ≡ slice_set reps k r → Standing g more k
standing_more g ok reps more i k r s at low rep e =
    let own = s.long in
    let long = length_set reps k r in
    let same_long : length more ≡ length (slice_set reps k r) = ap (λ (xs : List ℕ). length xs) e in
    let apart : (j : ℕ) → k < j → slice_index reps j ≡ slice_index more j =
    λ j up. sym (ap (λ (xs : List ℕ). slice_index xs j) e
    ∙ set_there reps k j r (λ f. absurd (omega arith))) in
    record {
      long = omega arith;
      each = λ j v high is.
          ⊎_elim
          (λ here.
          let h : k ≡ j = here in
          let is_here : slice_get g k ≡ Some v =
          subst (λ (n : ℕ). slice_get g n ≡ Some v) (sym h) is in
          let rep_here = moved g ok (slice_index reps) (slice_index more) k r v is_here apart
          (rep v is_here) in
          let read : slice_index more k ≡ r =
          ap (λ (xs : List ℕ). slice_index xs k) e ∙ index_set reps k r (omega arith) in
          subst (λ (n : ℕ). IsRep g (slice_index more) n (slice_index more n) v) h
          (subst (λ (q : ℕ). IsRep g (slice_index more) k q v) (sym read) rep_here))
          (λ other.
          let up : k < j = above k j high other in
          let old = s.each j v (omega arith) is in
          let new = moved g ok (slice_index reps) (slice_index more) j (slice_index reps j) v is
          (λ l more_up. apart l (omega arith)) old in
          subst (λ (q : ℕ). IsRep g (slice_index more) j q v) (apart j up) new)
          (cases_eq k j);
    }
  where
    above : (a b : ℕ) → a ≤ b → (a ≡ b → ⊥) → a < b
    above a b less other = omega (arith, other)

pub got_map : (f : Vertex → Vertex) (vs : List Vertex) (k : ℕ) (v : Vertex)
    → slice_get vs k ≡ Some v → slice_get (map f vs) k ≡ Some (f v)
got_map f [] k v e = cc
got_map f (w ∷ vs) zero v e = let h : w ≡ v = cc in ap (λ (u : Vertex). Some (f u)) h
got_map f (w ∷ vs) (suc k) v e = got_map f vs k v e

pub standing_shrinks : (g : List Vertex) (reps : List ℕ) (i : ℕ) → Standing g reps i → i ≡ 0
    → Shrinks g (map (renamed (slice_index reps)) g) (slice_index reps) (λ k. true)
standing_shrinks g reps i s at = record {
  first = refl;
  onward = λ k i on low. refl;
  begin = λ next is. got_map (renamed (slice_index reps)) g 0 (Begin next) is;
  test = λ k var kids on is.
      ⊎_elim
      (λ own. inl (subst (λ (n : ℕ). slice_get (map (renamed (slice_index reps)) g) n
      ≡ Some (Test var (map (slice_index reps) kids))) (sym own)
      (got_map (renamed (slice_index reps)) g k (Test var kids) is)))
      (λ rest. ⊎_elim (λ idle. inr idle) (λ t. inl (twin k (Test var kids) t)) rest)
      (s.each k (Test var kids) (omega arith) is);
  assign = λ k result code next on is.
      ⊎_elim
      (λ own. inl (subst (λ (n : ℕ). slice_get (map (renamed (slice_index reps)) g) n
      ≡ Some (Assign result code (slice_index reps next))) (sym own)
      (got_map (renamed (slice_index reps)) g k (Assign result code next) is)))
      (λ rest. ⊎_elim (λ left. inr left) (λ t. inl (twin k (Assign result code next) t)) rest)
      (s.each k (Assign result code next) (omega arith) is);
  end = λ k on is. let own : slice_index reps k ≡ k = s.each k End (omega arith) is in
      subst (λ (n : ℕ). slice_get (map (renamed (slice_index reps)) g) n ≡ Some End) (sym own)
      (got_map (renamed (slice_index reps)) g k End is);
}
  where
    twin : (k : ℕ) (v : Vertex) → IsTwin g (slice_index reps) k (slice_index reps k) v
        → slice_get (map (renamed (slice_index reps)) g) (slice_index reps k)
        ≡ Some (renamed (slice_index reps) v)
    twin k v t = got_map (renamed (slice_index reps)) g (slice_index reps k) t.other t.is
        ∙ ap (λ (u : Vertex). Some u) t.same

-- what stands for a vertex is no earlier, and within
pub vertex_there : (vs : List Vertex) (n : ℕ) → n < length vs → slice_get vs n ≡ None → ⊥
vertex_there [] n l none = omega arith
vertex_there (v ∷ vs) zero l none = cc
vertex_there (v ∷ vs) (suc n) l none = vertex_there vs n (omega arith) none

module _ (g : List Vertex) (ok : IsGraph g) (reps : List ℕ) (s : Standing g reps 0) where
  abbrev Within : ℕ → Type 0
  Within k = (k ≤ slice_index reps k) × (slice_index reps k < length g)

  within_of : (k : ℕ) → k < length g → ((j : ℕ) → k < j → j < length g → Within j)
      → (o : Option Vertex) → slice_get g k ≡ o → Within k
  within_of k low later None is = absurd (vertex_there g k low is)
  within_of k low later (Some (Begin next)) is = let own : slice_index reps k ≡ k =
      s.each k (Begin next) (omega arith) is in (omega arith, omega arith)
  within_of k low later (Some (Test var kids)) is =
      ⊎_elim
      (λ own. (omega (arith, own), omega (arith, own)))
      (λ rest. ⊎_elim
      (λ idle.
      let some = ok.some_kid k var kids is in
      let up = ok.above k (Test var kids) 0 is some in
      let inside = ok.within k (Test var kids) 0 is some in
      let kid = later (slice_index kids 0) up inside in
      let a = kid.0 in
      let b = kid.1 in
      let e = idle 0 some in
      (omega arith, omega arith))
      (λ t. let up = t.later in let inside = read_within g (slice_index reps k) t.other t.is in
      (omega arith, omega arith))
      rest)
      (s.each k (Test var kids) (omega arith) is)
  within_of k low later (Some (Assign result code next)) is =
      ⊎_elim
      (λ own. (omega (arith, own), omega (arith, own)))
      (λ rest. ⊎_elim
      (λ left.
      let up : k < next = ok.above k (Assign result code next) 0 is (omega arith) in
      let inside : next < length g = ok.within k (Assign result code next) 0 is (omega arith) in
      let kid = later next up inside in
      let a = kid.0 in
      let b = kid.1 in
      let e = left.1 in
      (omega arith, omega arith))
      (λ t. let up = t.later in let inside = read_within g (slice_index reps k) t.other t.is in
      (omega arith, omega arith))
      rest)
      (s.each k (Assign result code next) (omega arith) is)
  within_of k low later (Some End) is = let own : slice_index reps k ≡ k =
      s.each k End (omega arith) is in (omega arith, omega arith)

  pub within : (left k : ℕ) → length g ≤ k + left → k < length g → Within k
  within zero k e low = absurd (omega arith)
  within (suc left) k e low =
      within_of k low (λ j up inside. within left j (omega arith) inside) (slice_get g k) refl

  long_vertices : (f : Vertex → Vertex) (vs : List Vertex) → length (map f vs) ≡ length vs
  long_vertices f [] = refl
  long_vertices f (v ∷ vs) = ap suc (long_vertices f vs)

  kids_renamed : (f : ℕ → ℕ) (v : Vertex) → kids_of (renamed f v) ≡ map f (kids_of v)
  kids_renamed f (Begin next) = refl
  kids_renamed f (Test var kids) = refl
  kids_renamed f (Assign result code next) = refl
  kids_renamed f End = refl

  got_none : (f : Vertex → Vertex) (vs : List Vertex) (k : ℕ) → slice_get vs k ≡ None
      → slice_get (map f vs) k ≡ None
  got_none f [] k e = refl
  got_none f (v ∷ vs) zero e = cc
  got_none f (v ∷ vs) (suc k) e = got_none f vs k e

  index_map : (f : ℕ → ℕ) (xs : List ℕ) (j : ℕ) → j < length (map f xs)
      → (j < length xs) × (slice_index (map f xs) j ≡ f (slice_index xs j))
  index_map f [] j low = absurd (omega arith)
  index_map f (x ∷ xs) zero low = (omega arith, refl)
  index_map f (x ∷ xs) (suc j) low = let r = index_map f xs j (omega arith) in
      (omega (arith, r.0), r.1)

  pub rises : Rises (map (renamed (slice_index reps)) g)
  rises k i low = go (slice_get g k) refl
    where
      go : (o : Option Vertex) → slice_get g k ≡ o
          → (k < slice_index (kids_at (map (renamed (slice_index reps)) g) k) i)
          × (slice_index (kids_at (map (renamed (slice_index reps)) g) k) i
          < length (map (renamed (slice_index reps)) g))
      go None is = absurd (let e : length (kids_at (map (renamed (slice_index reps)) g) k)
          ≡ 0 = ap (λ (o : Option Vertex). length (kids_in o))
          (got_none (renamed (slice_index reps)) g k is) in omega arith)
      go (Some v) is =
          let e : kids_at (map (renamed (slice_index reps)) g) k
          ≡ map (slice_index reps) (kids_of v) =
          ap kids_in (got_map (renamed (slice_index reps)) g k v is)
          ∙ kids_renamed (slice_index reps) v in
          let item = index_map (slice_index reps) (kids_of v) i
          (subst (λ (ks : List ℕ). i < length ks) e low) in
          let up = ok.above k v i is item.0 in
          let inside = ok.within k v i is item.0 in
          let kid = within (length g) (slice_index (kids_of v) i) (omega arith) inside in
          let a = kid.0 in
          let b = kid.1 in
          let at : slice_index (kids_at (map (renamed (slice_index reps)) g) k) i
          ≡ slice_index reps (slice_index (kids_of v) i) =
          ap (λ (ks : List ℕ). slice_index ks i) e ∙ item.1 in
          let long = long_vertices (renamed (slice_index reps)) g in
          (omega arith, omega arith)

  pub first_stands : slice_index reps 0 ≡ 0
  first_stands = s.each 0 (Begin ok.begin.0) (omega arith) ok.begin.1

  pub some_vertex : 0 < length (map (renamed (slice_index reps)) g)
  some_vertex = let low = read_within g 0 (Begin ok.begin.0) ok.begin.1 in
      let long = long_vertices (renamed (slice_index reps)) g in omega arith

  -- what stands for a vertex stands for itself
  own_of : (k : ℕ) → k < length g
      → ((j : ℕ) → k < j → j < length g → slice_index reps (slice_index reps j)
      ≡ slice_index reps j) → (o : Option Vertex) → slice_get g k ≡ o
      → slice_index reps (slice_index reps k) ≡ slice_index reps k
  own_of k low later None is = absurd (vertex_there g k low is)
  own_of k low later (Some (Begin next)) is =
      ap (slice_index reps) (s.each k (Begin next) (omega arith) is)
  own_of k low later (Some (Test var kids)) is =
      ⊎_elim
      (λ own. ap (slice_index reps) own)
      (λ rest. ⊎_elim
      (λ idle.
      let some = ok.some_kid k var kids is in
      let e = idle 0 some in
      sym (ap (slice_index reps) e) ∙ later (slice_index kids 0)
      (ok.above k (Test var kids) 0 is some) (ok.within k (Test var kids) 0 is some) ∙ e)
      (λ t. t.own)
      rest)
      (s.each k (Test var kids) (omega arith) is)
  own_of k low later (Some (Assign result code next)) is =
      ⊎_elim
      (λ own. ap (slice_index reps) own)
      (λ rest. ⊎_elim
      (λ left. sym (ap (slice_index reps) left.1)
      ∙ later next (ok.above k (Assign result code next) 0 is (omega arith))
      (ok.within k (Assign result code next) 0 is (omega arith)) ∙ left.1)
      (λ t. t.own)
      rest)
      (s.each k (Assign result code next) (omega arith) is)
  own_of k low later (Some End) is = ap (slice_index reps) (s.each k End (omega arith) is)

  own_from : (left k : ℕ) → length g ≤ k + left → k < length g
      → slice_index reps (slice_index reps k) ≡ slice_index reps k
  own_from zero k e low = absurd (omega arith)
  own_from (suc left) k e low =
      own_of k low (λ j up inside. own_from left j (omega arith) inside) (slice_get g k) refl

  pub own : (k : ℕ) → k < length g → slice_index reps (slice_index reps k) ≡ slice_index reps k
  own k low = own_from (length g) k (omega arith) low
