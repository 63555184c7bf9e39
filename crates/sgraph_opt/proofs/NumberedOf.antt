-- Vertices that are numbered again stand in the order of the walk.
use Rattle.std.proofs.Common.{◌≡◌, inl, inr, ⊎_elim, ℕ, zero, suc, ◌+◌, ◌<◌, ◌≤◌, true, List, ◌∷◌, map, length, slice_get, slice_index, Option, Some, None, refl, ap, sym, subst, ◌∙◌, arith, eqb, []}
use Rattle.std.specs.Prelude.{unwrap_or}
use Rattle.std.proofs.lemmas.Bool.{cases_lt, eqb-true, or_cases, true≢false}
use Rattle.std.proofs.lemmas.Grind.{same_number_lists}
use Rattle.polis_base.specs.Lists.{upto}
use Rattle.transition_table.specs.NetworkFacts.{has}
use Rattle.domains.specs.Orders.{place}
use Rattle.sgraph.specs.declared.vertex.Vertex.{Vertex}
use Rattle.sgraph.specs.declared.vertex.Vertex.TheVariants.{Begin, Test, Assign, End}
use Rattle.sgraph.specs.Graphs.{kids_of, kids_in, kids_at, left_after, Numbered}
use Rattle.sgraph_opt.specs.inner.Representatives.{renamed}
use Rattle.sgraph_opt.specs.Renumbering.{all_left}
use Rattle.sgraph_opt.specs.inner.Renumbering.{vertex_at, numbered_of, Rises}
use Rattle.sgraph.proofs.LeftAfter.{Closed, visit_new, in_place, has_at, place_at, closed_next, enough, every_left, renamed as renamed_walk}
use Rattle.sgraph_opt.proofs.LeftBeyond.{visit_beyond}
use Rattle.decision_diagram.proofs.Distinct.{Every}
use Rattle.sgraph_opt.specs.inner.Shrinking.{Shrinks}
use Rattle.sgraph.proofs.IsGraph.{long_map}
use Rattle.domains.proofs.Places.{at_place}
use Rattle.decision_diagram.proofs.ByVariable.{index_map, index_upto}
use Rattle.polis_base.proofs.UptoPlaces.{length_upto}

pub kids_renamed : (f : ℕ → ℕ) (v : Vertex) → kids_of (renamed f v) ≡ map f (kids_of v)
kids_renamed f (Begin next) = refl
kids_renamed f (Test var kids) = refl
kids_renamed f (Assign result code next) = refl
kids_renamed f End = refl

kids_vertex : (o : Option Vertex) → kids_of (unwrap_or o End) ≡ kids_in o
kids_vertex None = refl
kids_vertex (Some v) = refl

pub got_map : (f : ℕ → Vertex) (xs : List ℕ) (i : ℕ) → i < length xs
    → slice_get (map f xs) i ≡ Some (f (slice_index xs i))
got_map f [] i low = absurd (omega arith)
got_map f (x ∷ xs) zero low = refl
got_map f (x ∷ xs) (suc i) low = got_map f xs i (omega arith)

pub got_none : (f : ℕ → Vertex) (xs : List ℕ) (i : ℕ) → length xs ≤ i
    → slice_get (map f xs) i ≡ None
got_none f [] i high = refl
got_none f (x ∷ xs) zero high = absurd (omega arith)
got_none f (x ∷ xs) (suc i) high = got_none f xs i (omega arith)

pub long_vertices : (f : ℕ → Vertex) (xs : List ℕ) → length (map f xs) ≡ length xs
long_vertices f [] = refl
long_vertices f (x ∷ xs) = ap suc (long_vertices f xs)

module _ (h : List Vertex) (some : 0 < length h) (rises : Rises h) where
  abbrev next : ℕ → List ℕ
  next = kids_at h

  abbrev left : List ℕ
  left = all_left h

  abbrev number : ℕ → ℕ
  number = place (all_left h)

  abbrev vertex : ℕ → Vertex
  vertex k = renamed (place (all_left h)) (vertex_at h k)

  pub closed : Closed (kids_at h) (all_left h)
  closed = (visit_beyond (kids_at h) (length h) rises (length h) [] 0 (omega arith) some).closed tt

  pub first_there : has (all_left h) 0 ≡ true
  first_there = (visit_beyond (kids_at h) (length h) rises (length h) [] 0 (omega arith) some).here

  kids_number : (k : ℕ) → has (all_left h) k ≡ true
      → kids_at (numbered_of h) (place (all_left h) k) ≡ map (place (all_left h)) (kids_at h k)
  kids_number k there =
      let low = in_place next left k there in
      ap kids_in (got_map vertex left (place left k) low
      ∙ ap (λ (j : ℕ). Some (renamed (place (all_left h)) (vertex_at h j)))
      (at_place left k low))
      ∙ kids_renamed number (vertex_at h k)
      ∙ ap (map (place (all_left h))) (kids_vertex (slice_get h k))

  pub same : (a b : ℕ) → has (all_left h) a ≡ true → has (all_left h) b ≡ true
      → place (all_left h) a ≡ place (all_left h) b → a ≡ b
  same a b in_a in_b e =
      sym (at_place left a (in_place next left a in_a)) ∙ ap (slice_index left) e
      ∙ at_place left b (in_place next left b in_b)

  pub again_rises : (k i : ℕ) → i < length (kids_at (numbered_of h) k)
      → (k < slice_index (kids_at (numbered_of h) k) i)
      × (slice_index (kids_at (numbered_of h) k) i < length (all_left h))
  again_rises k i low =
      ⊎_elim
      (λ inside.
      let x = slice_index left k in
      let there = has_at next left k inside in
      let own : place left x ≡ k = place_at next left k closed inside in
      let kids : kids_at (numbered_of h) k ≡ map number (next x) =
      ap (kids_at (numbered_of h)) (sym own) ∙ kids_number x there in
      let long : length (kids_at (numbered_of h) k) ≡ length (next x) =
      ap (λ (ks : List ℕ). length ks) kids ∙ long_map number (next x) in
      let step = closed_next next left x i closed there (omega arith) in
      let later : place left x < place left (slice_index (next x) i) = step.1 in
      let kid : slice_index (kids_at (numbered_of h) k) i ≡ place left (slice_index (next x) i) =
      ap (λ (ks : List ℕ). slice_index ks i) kids ∙ index_map number (next x) i (omega arith) in
      let bound = in_place next left (slice_index (next x) i) step.0 in
      (omega arith, omega arith))
      (λ outside. absurd (let e : length (kids_at (numbered_of h) k)
      ≡ 0 = ap (λ (o : Option Vertex). length (kids_in o)) (got_none vertex left k outside) in
      omega arith))
      (cases_lt k (length left))

  numbers : map (place (all_left h)) (all_left h) ≡ upto (length (all_left h))
  numbers =
      let long = long_map number left in
      let total = length_upto (length left) in
      same_number_lists (map number left) (upto (length left)) (omega arith) (λ i low.
      index_map number left i (omega arith) ∙ place_at next left i closed (omega arith)
      ∙ sym (index_upto (length left) i (omega arith)))

  pub first_zero : place (all_left h) 0 ≡ 0
  first_zero = go (length h) some
    where
      go : (n : ℕ) → 0 < n → place (left_after n (kids_at h) [] 0) 0 ≡ 0
      go zero low = absurd (omega arith)
      go (suc n) low = ap (λ (xs : List ℕ). place xs 0) (visit_new (kids_at h) n [] 0 refl)

  pub again : Numbered (numbered_of h)
  again =
      let count : ℕ = length left in
      let fuel : ℕ = length h + count in
      let long : length (numbered_of h) ≡ count = long_vertices vertex left in
      let there = in_place next left 0 first_there in
      let inner = renamed_walk next (kids_at (numbered_of h)) number (λ k. has left k ≡ true)
      (λ a b in_a in_b e. same a b in_a in_b e) (λ k in_k. kids_number k in_k)
      (λ k i in_k low. (closed_next next left k i closed in_k low).0) fuel [] 0 tt
      first_there in
      ap (λ (n : ℕ). left_after n (kids_at (numbered_of h)) [] 0) long
      ∙ enough (kids_at (numbered_of h)) count again_rises count fuel [] 0 (omega arith)
      (omega arith) (omega arith)
      ∙ ap (left_after fuel (kids_at (numbered_of h)) []) (sym first_zero)
      ∙ inner.0
      ∙ ap (map number)
      (enough next (length h) rises fuel (length h) [] 0 (omega arith) (omega arith) some)
      ∙ numbers
      ∙ ap upto (sym long)

-- ---- what shrank, numbered again, is still shrunk

pub map_map : (f to : ℕ → ℕ) (xs : List ℕ) → map f (map to xs) ≡ map (λ k. f (to k)) xs
map_map f to [] = refl
map_map f to (x ∷ xs) = ap (λ (ns : List ℕ). f (to x) ∷ ns) (map_map f to xs)

every_has : (P : ℕ → Type 0) (xs : List ℕ) (k : ℕ) → Every P xs → has xs k ≡ true → P k
every_has P [] k all h = absurd (true≢false (sym h))
every_has P (x ∷ xs) k all h =
    ⊎_elim
    (λ own. subst P (eqb-true x k own) all.0)
    (λ rest. every_has P xs k all.1 rest)
    (or_cases (eqb x k) (has xs k) h)

module _ (g h : List Vertex) (to : ℕ → ℕ) (some : 0 < length h) (rises : Rises h)
    (some_g : 0 < length g) (rises_g : Rises g) (shrinks : Shrinks g h to (λ k. true))
    (first : to 0 ≡ 0) (begins : (k next : ℕ) → slice_get g k ≡ Some (Begin next) → k ≡ 0) where
  -- a kid of what stands for a vertex is left
  on_kid : (k i : ℕ) (v : Vertex) (kids : List ℕ) → has (all_left h) (to k) ≡ true
      → slice_get h (to k) ≡ Some v → kids_of v ≡ map to kids → i < length kids
      → has (all_left h) (to (slice_index kids i)) ≡ true
  on_kid k i v kids there is e low =
      let same : kids_at h (to k) ≡ map to kids = ap kids_in is ∙ e in
      let long : length (kids_at h (to k)) ≡ length kids =
      ap (λ (ks : List ℕ). length ks) same ∙ long_map to kids in
      let step = closed_next (kids_at h) (all_left h) (to k) i (closed h some rises) there
      (omega arith) in
      subst (λ (j : ℕ). has (all_left h) j ≡ true)
      (ap (λ (ks : List ℕ). slice_index ks i) same ∙ index_map to kids i low) step.0

  inside : (k i : ℕ) → has (all_left h) (to k) ≡ true → i < length (kids_at g k)
      → has (all_left h) (to (slice_index (kids_at g k) i)) ≡ true
  inside k i there low = go (slice_get g k) refl low
    where
      only_first : (n : ℕ) → n < 1 → n ≡ 0
      only_first n less = omega arith

      go : (o : Option Vertex) → slice_get g k ≡ o → i < length (kids_in o)
          → has (all_left h) (to (slice_index (kids_in o) i)) ≡ true
      go None is low = absurd (omega arith)
      go (Some (Begin next)) is low =
          let zero_k = begins k next is in
          let at : slice_get h (to k) ≡ Some (Begin (to next)) =
          ap (λ (j : ℕ). slice_get h (to j)) zero_k ∙ ap (slice_get h) first
          ∙ shrinks.begin next (ap (slice_get g) (sym zero_k) ∙ is) in
          on_kid k i (Begin (to next)) (next ∷ []) there at refl low
      go (Some (Test var kids)) is low =
          ⊎_elim
          (λ real. on_kid k i (Test var (map to kids)) kids there real refl low)
          (λ idle. subst (λ (j : ℕ). has (all_left h) j ≡ true) (sym (idle i low)) there)
          (shrinks.test k var kids refl is)
      go (Some (Assign result code next)) is low =
          ⊎_elim
          (λ real. on_kid k i (Assign result code (to next)) (next ∷ []) there real refl low)
          (λ left. subst (λ (n : ℕ). has (all_left h) (to (slice_index (next ∷ []) n)) ≡ true)
          (sym (only_first i low))
          (subst (λ (j : ℕ). has (all_left h) j ≡ true) (sym left.1) there))
          (shrinks.assign k result code next refl is)
      go (Some End) is low = absurd (omega arith)

  -- what stands for a vertex that is reached is left
  pub all_there : (k : ℕ) → has (all_left g) k ≡ true → has (all_left h) (to k) ≡ true
  all_there k on =
      every_has (λ j. has (all_left h) (to j) ≡ true) (all_left g) k
      (every_left (kids_at g) (λ j. has (all_left h) (to j) ≡ true) inside (length g) [] 0 tt
      (ap (has (all_left h)) first ∙ first_there h some rises)) on

  -- a vertex in its new place
  in_new : (k : ℕ) (v : Vertex) → has (all_left h) k ≡ true → slice_get h k ≡ Some v
      → slice_get (numbered_of h) (place (all_left h) k) ≡ Some (renamed (place (all_left h)) v)
  in_new k v there is =
      let low = in_place (kids_at h) (all_left h) k there in
      got_map (λ j. renamed (place (all_left h)) (vertex_at h j)) (all_left h)
      (place (all_left h) k) low
      ∙ ap (λ (j : ℕ). Some (renamed (place (all_left h)) (vertex_at h j)))
      (at_place (all_left h) k low)
      ∙ ap (λ (o : Option Vertex). Some (renamed (place (all_left h)) (unwrap_or o End))) is

  pub shrinks_again : Shrinks g (numbered_of h) (λ k. place (all_left h) (to k)) (has (all_left g))
  shrinks_again = record {
    first = first_there g some_g rises_g;
    onward = λ k i on low.
        (closed_next (kids_at g) (all_left g) k i (closed g some_g rises_g) on low).0;
    begin = λ next is.
        let e = in_new 0 (Begin (to next)) (first_there h some rises) (shrinks.begin next is) in
        subst (λ (n : ℕ). slice_get (numbered_of h) n ≡ Some (Begin (place (all_left h) (to next))))
        (first_zero h some rises) e;
    test = λ k var kids on is.
        ⊎_elim
        (λ real. inl (in_new (to k) (Test var (map to kids))
        (all_there k on) real
        ∙ ap (λ (ks : List ℕ). Some (Test var ks)) (map_map (place (all_left h)) to kids)))
        (λ idle. inr (λ i low. ap (place (all_left h)) (idle i low)))
        (shrinks.test k var kids refl is);
    assign = λ k result code next on is.
        ⊎_elim
        (λ real. inl (in_new (to k) (Assign result code (to next))
        (all_there k on) real))
        (λ left. inr (left.0, ap (place (all_left h)) left.1))
        (shrinks.assign k result code next refl is);
    end = λ k on is. in_new (to k) End (all_there k on) (shrinks.end k refl is);
  }
