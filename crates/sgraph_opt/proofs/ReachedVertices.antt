-- Each vertex of a smaller graph does what a vertex of the graph does that is reached.
use Rattle.std.proofs.Common.{◌≡◌, ⊎_elim, ℕ, zero, suc, ◌+◌, ◌<◌, ◌≤◌, Bool, true, false, List, [], ◌∷◌, map, length, slice_get, slice_index, get_or, Option, Some, None, refl, ap, sym, subst, ◌∙◌, arith, eqb}
use Rattle.std.specs.List.{list_any}
use Rattle.std.specs.Cmp.{IsEquivalence}
use Rattle.std.proofs.lemmas.Bool.{eqb-true, eq-eqb, ne_eqb, cases_eq, or_cases, or_left, or_right, true≢false}
use Rattle.std.proofs.lemmas.List.{get_or_default}
use Rattle.std.proofs.lemmas.Map.Made.{length-le_from_is_member}
use Rattle.std.proofs.lemmas.Map.Keys.{IsDistinct-from_apart}
use Rattle.polis_base.specs.Lists.{upto}
use Rattle.transition_table.specs.NetworkFacts.{has}
use Rattle.sgraph.specs.declared.vertex.Vertex.{Vertex}
use Rattle.sgraph.specs.declared.vertex.Vertex.TheVariants.{Begin, Test, Assign, End}
use Rattle.sgraph.specs.Facts.{IsGraph}
use Rattle.sgraph.specs.Graphs.{kids_of, kids_in, kids_at, Numbered}
use Rattle.sgraph_opt.specs.inner.Representatives.{renamed}
use Rattle.sgraph_opt.specs.inner.Shrinking.{Shrinks}
use Rattle.sgraph_opt.proofs.NumberedOf.{kids_renamed}
use Rattle.sgraph.proofs.IsGraph.{long_map}
use Rattle.sgraph.proofs.NumberedGraph.{every_at}
use Rattle.sgraph.proofs.LeftAfter.{every_left}
use Rattle.decision_diagram.proofs.Distinct.{Every}
use Rattle.sgraph_opt.proofs.ShrunkKids.{some_child}
use Rattle.sgraph_opt.proofs.Standing.{vertex_there}
use Rattle.decision_diagram.proofs.ListItems.{read_within}
use Rattle.decision_diagram.proofs.ByVariable.{index_map, index_upto}
use Rattle.polis_base.proofs.UptoPlaces.{length_upto}

module _ (g h : List Vertex) (to : ℕ → ℕ) (some : ℕ → Bool) (ok : IsGraph g)
    (shrinks : Shrinks g h to some) (first : to 0 ≡ 0) where
  -- one of these vertices, for which vertex j stands and does the same
  pub record Source (j : ℕ) : Type 0 where
    pub number : ℕ
    pub vertex : Vertex
    pub on : some number ≡ true
    pub is : slice_get g number ≡ Some vertex
    pub stands : to number ≡ j
    pub there : slice_get h j ≡ Some (renamed to vertex)

  own_source : (k : ℕ) (v : Vertex) → some k ≡ true → slice_get g k ≡ Some v
      → slice_get h (to k) ≡ Some (renamed to v) → Source (to k)
  own_source k v on is there =
      record { number = k; vertex = v; on = on; is = is; stands = refl; there = there }

  -- where the first child's vertex stands for it
  kid_source : (k : ℕ) (v : Vertex) → slice_get g k ≡ Some v → 0 < length (kids_of v)
      → to (slice_index (kids_of v) 0) ≡ to k → some k ≡ true
      → ((j : ℕ) → k < j → j < length g → some j ≡ true → Source (to j)) → Source (to k)
  kid_source k v is low e on later =
      subst Source e (later (slice_index (kids_of v) 0) (ok.above k v 0 is low)
      (ok.within k v 0 is low) (some_child g h to some shrinks k 0 v is on low))

  any_source : (k : ℕ) → k < length g → some k ≡ true
      → ((j : ℕ) → k < j → j < length g → some j ≡ true → Source (to j)) → (o : Option Vertex)
      → slice_get g k ≡ o → Source (to k)
  any_source k low on later None is = absurd (vertex_there g k low is)
  any_source k low on later (Some (Begin next)) is =
      let zero_k = ok.only_begin k next is in
      own_source k (Begin next) on is (ap (λ (j : ℕ). slice_get h (to j)) zero_k
      ∙ ap (slice_get h) first ∙ shrinks.begin next (ap (slice_get g) (sym zero_k) ∙ is))
  any_source k low on later (Some (Test var kids)) is =
      ⊎_elim
      (λ there. own_source k (Test var kids) on is there)
      (λ idle. let one = ok.some_kid k var kids is in
      kid_source k (Test var kids) is one (idle 0 one) on later)
      (shrinks.test k var kids on is)
  any_source k low on later (Some (Assign result code next)) is =
      ⊎_elim
      (λ there. own_source k (Assign result code next) on is there)
      (λ left. kid_source k (Assign result code next) is (omega arith) left.1 on later)
      (shrinks.assign k result code next on is)
  any_source k low on later (Some End) is = own_source k End on is (shrinks.end k on is)

  source_from : (bound k : ℕ) → length g ≤ k + bound → k < length g → some k ≡ true → Source (to k)
  source_from zero k e low on = absurd (omega arith)
  source_from (suc bound) k e low on =
      any_source k low on (λ j up inside on_j. source_from bound j (omega arith) inside on_j)
      (slice_get g k) refl

  -- one of these vertices has vertex j
  abbrev Had : ℕ → Type 0
  Had j = (k : ℕ) × (k < length g) × (some k ≡ true) × (to k ≡ j)

  source_of : (j : ℕ) → Had j → Source j
  source_of j had =
      subst Source had.3 (source_from (length g) had.0 (omega arith) had.1 had.2)

  had_kid : (j i : ℕ) → Had j → i < length (kids_at h j) → Had (slice_index (kids_at h j) i)
  had_kid j i had low =
      let s = source_of j had in
      let kids : kids_at h j ≡ map to (kids_of s.vertex) =
      ap kids_in s.there ∙ kids_renamed to s.vertex in
      let long : length (kids_at h j) ≡ length (kids_of s.vertex) =
      ap (λ (ks : List ℕ). length ks) kids ∙ long_map to (kids_of s.vertex) in
      let inside : i < length (kids_of s.vertex) = omega arith in (
        slice_index (kids_of s.vertex) i,
        ok.within s.number s.vertex i s.is inside,
        some_child g h to some shrinks s.number i s.vertex s.is s.on inside,
        sym (ap (λ (ks : List ℕ). slice_index ks i) kids ∙ index_map to (kids_of s.vertex) i inside),
      )

  some_here : 0 < length g
  some_here = read_within g 0 (Begin ok.begin.0) ok.begin.1

  pub source : Numbered h → (j : ℕ) → j < length h → Source j
  source numbered j low =
      let every : Every Had (upto (length h)) =
      subst (Every Had) numbered
      (every_left (kids_at h) Had had_kid (length h) [] 0 tt
      (0, some_here, shrinks.first, first)) in
      let long = length_upto (length h) in
      source_of j (subst Had (index_upto (length h) j low)
      (every_at Had (upto (length h)) j every (omega arith)))

  pub had : Numbered h → (j : ℕ) → j < length h → Had j
  had numbered j low =
      let s = source numbered j low in
      (s.number, read_within g s.number s.vertex s.is, s.on, s.stands)

-- ---- how many they are
equivalence : IsEquivalence eqb
equivalence = record {
  refl = λ x. eq-eqb x x refl;
  symm = λ x y. ⊎_elim (λ e. eq-eqb x y e ∙ sym (eq-eqb y x (sym e)))
      (λ other. ne_eqb x y other ∙ sym (ne_eqb y x (λ e. other (sym e)))) (cases_eq x y);
  congr = λ x y z e. ap (λ (n : ℕ). eqb n z) (eqb-true x y e);
}

apart : (n i j d : ℕ) → i < j → j < length (upto n)
    → eqb (get_or (upto n) i d) (get_or (upto n) j d) ≡ false
apart n i j d less low =
    let long = length_upto n in
    let a : get_or (upto n) i d ≡ i =
    get_or_default (upto n) i d 0 (omega arith) ∙ index_upto n i (omega arith) in
    let b : get_or (upto n) j d ≡ j =
    get_or_default (upto n) j d 0 low ∙ index_upto n j (omega arith) in
    ne_eqb (get_or (upto n) i d) (get_or (upto n) j d) (λ e. absurd (omega arith))

member_at : (q : ℕ) (xs : List ℕ) → list_any (eqb q) xs ≡ true
    → (i : ℕ) × (i < length xs) × (slice_index xs i ≡ q)
member_at q [] h = absurd (true≢false (sym h))
member_at q (x ∷ xs) h =
    ⊎_elim
    (λ own. (0, omega arith, sym (eqb-true q x own)))
    (λ rest. let r = member_at q xs rest in (suc r.0, omega (arith, r.1), r.2))
    (or_cases (eqb q x) (list_any (eqb q) xs) h)

mapped : (to : ℕ → ℕ) (k : ℕ) (xs : List ℕ) → has xs k ≡ true
    → list_any (eqb (to k)) (map to xs) ≡ true
mapped to k [] h = absurd (true≢false (sym h))
mapped to k (x ∷ xs) h =
    ⊎_elim
    (λ own. or_left (eqb (to k) (to x)) (list_any (eqb (to k)) (map to xs))
    (eq-eqb (to k) (to x) (ap to (sym (eqb-true x k own)))))
    (λ rest. or_right (eqb (to k) (to x)) (list_any (eqb (to k)) (map to xs))
    (mapped to k xs rest))
    (or_cases (eqb x k) (has xs k) h)

-- where each number read_within n is had by one of a list, the list isn't shorter
pub few : (n : ℕ) (to : ℕ → ℕ) (xs : List ℕ)
    → ((j : ℕ) → j < n → (k : ℕ) × (has xs k ≡ true) × (to k ≡ j)) → n ≤ length xs
few n to xs each =
    let long = length_upto n in
    let long_too = long_map to xs in
    let le = length-le_from_is_member equivalence (upto n) (map to xs)
    (IsDistinct-from_apart eqb (upto n) (apart n)) (λ q there.
    let at = member_at q (upto n) there in
    let low : at.0 < n = omega (arith, at.1) in
    let e : at.0 ≡ q = sym (index_upto n at.0 low) ∙ at.2 in
    let from = each at.0 low in
    subst (λ (j : ℕ). list_any (eqb j) (map to xs) ≡ true) (from.2 ∙ e)
    (mapped to from.0 xs from.1)) in
    omega arith
