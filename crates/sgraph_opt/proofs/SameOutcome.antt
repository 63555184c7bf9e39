-- What is left out or joined changes nothing of what a walk gives.
use Rattle.std.proofs.Common.{◌≡◌, ⊎_elim, ℕ, zero, suc, ◌+◌, ◌<◌, ◌≤◌, Bool, true, not, List, ◌∷◌, map, length, replicate, slice_get, slice_index, slice_set, Option, Some, None, refl, ap, sym, subst, ◌∙◌, arith, eqb, get_or-set_other, []}
use Rattle.std.specs.Prelude.{Contains}
use Rattle.std.specs.List.{cons_option}
use Rattle.std.proofs.lemmas.Bool.{and_parts, cases_lt, eq-eqb, or_left, or_right, true≢false}
use Rattle.std.proofs.lemmas.List.{get_or-replicate, get_or_past, length-replicate}
use Rattle.transition_table.specs.NetworkFacts.{has, are_different}
use Rattle.transition_table.specs.declared.machine.Machine.{Machine}
use Rattle.sgraph.specs.declared.vertex.Vertex.{Vertex}
use Rattle.sgraph.specs.declared.vertex.Vertex.TheVariants.{Begin, Test, Assign, End}
use Rattle.sgraph.specs.Facts.{IsGraph, assigned_by, assigned}
use Rattle.sgraph.specs.Graphs.{next_of, walk, assign_all, with_codes, kids_of, kids_in, kids_at, IsPath, Eval}
use Rattle.sgraph_opt.specs.inner.Shrinking.{Shrinks, HasKids}
use Rattle.sgraph_opt.proofs.ShrunkKids.{some_child}
use Rattle.sgraph_opt.proofs.Standing.{vertex_there}
use Rattle.sgraph_opt.proofs.WalksFrom.{walk_from, step_on, step_end}
use Rattle.transition_table.proofs.SupportByTest.{set_own}
use Rattle.sgraph.proofs.EvalSteps.{got_some}
use Rattle.sgraph.proofs.BuiltEvaluates.{got_map}
use Rattle.polis_base.proofs.Places.{contains_at}

item_mapped : (f : ℕ → ℕ) (xs : List ℕ) (i : ℕ) → i < length xs
    → (slice_index (map f xs) i ≡ f (slice_index xs i)) × (i < length (map f xs))
item_mapped f [] i low = absurd (omega arith)
item_mapped f (x ∷ xs) zero low = (refl, omega arith)
item_mapped f (x ∷ xs) (suc i) low = let r = item_mapped f xs i (omega arith) in
    (r.0, omega (arith, r.1))

abbrev Above : List Vertex → Type 0
Above h = (k : ℕ) (v : Vertex) (j : ℕ) → slice_get h k ≡ Some v → j < length (kids_of v)
    → k < slice_index (kids_of v) j

-- the results that vertices assign
abbrev given : List Vertex → List ℕ
given [] = []
given (v ∷ vs) = cons_option (assigned_by (Some v)) (given vs)

module _ (g h : List Vertex) (to : ℕ → ℕ) (some : ℕ → Bool) (s : List ℕ) (ok : IsGraph g)
    (up_h : Above h) (shrinks : Shrinks g h to some) (first : to 0 ≡ 0)
    (kids_there : HasKids g some s) where
  abbrev from : List Vertex → ℕ → List Vertex
  from graph k = walk_from graph s k

  -- no result is given twice from here on, and none that is has got a code yet
  abbrev Unset : ℕ → List ℕ → Type 0
  Unset k codes = (are_different (given (from g k)) ≡ true)
      × ((y : ℕ) → has (given (from g k)) y ≡ true → slice_index codes y ≡ 0)

  abbrev Alike : ℕ → Type 0
  Alike k = some k ≡ true → (codes : List ℕ) → Unset k codes
      → assign_all codes (from g k) ≡ assign_all codes (from h (to k))

  of_begin : (k next : ℕ) → slice_get g k ≡ Some (Begin next)
      → ((j : ℕ) → k < j → j < length g → Alike j) → Alike k
  of_begin k next is later on codes unset =
      let zero_k = ok.only_begin k next is in
      let there : slice_get h (to k) ≡ Some (Begin (to next)) =
      ap (λ (j : ℕ). slice_get h (to j)) zero_k ∙ ap (slice_get h) first
      ∙ shrinks.begin next (ap (slice_get g) (sym zero_k) ∙ is) in
      let above : k < next = ok.above k (Begin next) 0 is (omega arith) in
      let within : next < length g = ok.within k (Begin next) 0 is (omega arith) in
      let above_too : to k < to next = up_h (to k) (Begin (to next)) 0 there (omega arith) in
      let mine = step_on g s k next (Begin next) is refl above in
      let theirs = step_on h s (to k) (to next) (Begin (to next)) there refl above_too in
      let on_next = some_child g h to some shrinks k 0 (Begin next) is on (omega arith) in
      ap (assign_all codes) mine ∙ later next above within on_next codes
      (subst (λ (vs : List Vertex). (are_different (given vs) ≡ true)
      × ((y : ℕ) → has (given vs) y ≡ true → slice_index codes y ≡ 0)) mine unset)
      ∙ sym (ap (assign_all codes) theirs)

  of_test : (k var : ℕ) (kids : List ℕ) → slice_get g k ≡ Some (Test var kids)
      → ((j : ℕ) → k < j → j < length g → Alike j) → Alike k
  of_test k var kids is later on codes unset =
      let i = slice_index s var in
      let low = kids_there k var kids on is in
      let j = slice_index kids i in
      let on_kid = some_child g h to some shrinks k i (Test var kids) is on low in
      let above = ok.above k (Test var kids) i is low in
      let within = ok.within k (Test var kids) i is low in
      let mine = step_on g s k j (Test var kids) is (got_some kids i low) above in
      let rest = later j above within on_kid codes
      (subst (λ (vs : List Vertex). (are_different (given vs) ≡ true)
      × ((y : ℕ) → has (given vs) y ≡ true → slice_index codes y ≡ 0)) mine unset) in
      ⊎_elim
      (λ real.
      let item = item_mapped to kids i low in
      let above_too = up_h (to k) (Test var (map to kids)) i real item.1 in
      let e : slice_index (map to kids) i ≡ to j = item.0 in
      let theirs = step_on h s (to k) (to j) (Test var (map to kids)) real (got_map to kids i low)
      (omega arith) in
      ap (assign_all codes) mine ∙ rest ∙ sym (ap (assign_all codes) theirs))
      (λ idle. ap (assign_all codes) mine ∙ rest
      ∙ ap (λ (n : ℕ). assign_all codes (from h n)) (idle i low))
      (shrinks.test k var kids on is)

  of_assign : (k result c next : ℕ) → slice_get g k ≡ Some (Assign result c next)
      → ((j : ℕ) → k < j → j < length g → Alike j) → Alike k
  of_assign k result c next is later on codes unset =
      let on_next = some_child g h to some shrinks k 0 (Assign result c next) is on (omega arith) in
      let above : k < next = ok.above k (Assign result c next) 0 is (omega arith) in
      let within : next < length g = ok.within k (Assign result c next) 0 is (omega arith) in
      let mine = step_on g s k next (Assign result c next) is refl above in
      let all = subst (λ (vs : List Vertex). (are_different (given vs) ≡ true)
      × ((y : ℕ) → has (given vs) y ≡ true → slice_index codes y ≡ 0)) mine unset in
      let parts = and_parts (not (has (given (from g next)) result))
      (are_different (given (from g next))) all.0 in
      let set : List ℕ = slice_set codes result c in
      let rest = later next above within on_next set (
        parts.1,
        λ y there.
            get_or-set_other codes result y c 0
            (λ same. true≢false
            (sym parts.0 ∙ ap not (ap (has (given (from g next))) (sym same) ∙ there)))
            ∙ all.1 y (or_right (eqb result y) (has (given (from g next)) y) there),
      )
      in
      ⊎_elim
      (λ real.
      let above_too : to k < to next =
      up_h (to k) (Assign result c (to next)) 0 real (omega arith) in
      ap (assign_all codes) mine ∙ rest ∙ sym
      (ap (assign_all codes)
      (step_on h s (to k) (to next) (Assign result c (to next)) real refl above_too)))
      (λ dropped.
      let zero_there : slice_index codes result ≡ 0 =
      all.1 result (or_left (eqb result result) (has (given (from g next)) result)
      (eq-eqb result result refl)) in
      let same : set ≡ codes = ap (slice_set codes result) (dropped.0 ∙ sym zero_there)
      ∙ set_own codes result in
      ap (assign_all codes) mine ∙ rest ∙ ap (λ (n : ℕ). assign_all set (from h n)) dropped.1
      ∙ ap (λ (cs : List ℕ). assign_all cs (from h (to k))) same)
      (shrinks.assign k result c next on is)

  of_end : (k : ℕ) → slice_get g k ≡ Some End → Alike k
  of_end k is on codes unset =
      ap (assign_all codes) (step_end g s k is)
      ∙ sym (ap (assign_all codes) (step_end h s (to k) (shrinks.end k on is)))

  of_any : (k : ℕ) → k < length g → ((j : ℕ) → k < j → j < length g → Alike j) → (o : Option Vertex)
      → slice_get g k ≡ o → Alike k
  of_any k low later None is = absurd (vertex_there g k low is)
  of_any k low later (Some (Begin next)) is = of_begin k next is later
  of_any k low later (Some (Test var kids)) is = of_test k var kids is later
  of_any k low later (Some (Assign result c next)) is = of_assign k result c next is later
  of_any k low later (Some End) is = of_end k is

  alike : (left k : ℕ) → length g ≤ k + left → k < length g → Alike k
  alike zero k e low = absurd (omega arith)
  alike (suc left) k e low =
      of_any k low (λ j less inside. alike left j (omega arith) inside) (slice_get g k) refl

  -- ---- a walk is a path
  abbrev Walked : ℕ → Type 0
  Walked k = some k ≡ true → (path : List ℕ) × IsPath g (k ∷ path) × (assigned g (k ∷ path) ≡ given (from g k))

  walked_on : (k i : ℕ) (v : Vertex) → slice_get g k ≡ Some v → i < length (kids_of v)
      → next_of s k v ≡ Some (slice_index (kids_of v) i)
      → ((j : ℕ) → k < j → j < length g → Walked j) → Walked k
  walked_on k i v is low next later on =
      let kid : ℕ = slice_index (kids_of v) i in
      let up = ok.above k v i is low in
      let rest = later kid up (ok.within k v i is low)
      (some_child g h to some shrinks k i v is on low) in
      let here : Contains (kids_at g k) kid =
      subst (λ (ks : List ℕ). Contains ks kid) (sym (ap kids_in is))
      (contains_at (kids_of v) i low) in (
        kid ∷ rest.0,
        (here, rest.1),
        ap (λ (o : Option Vertex). cons_option (assigned_by o) (assigned g (kid ∷ rest.0))) is
            ∙ ap (cons_option (assigned_by (Some v))) rest.2
            ∙ sym (ap given (step_on g s k kid v is next up)),
      )

  walked_any : (k : ℕ) → k < length g → ((j : ℕ) → k < j → j < length g → Walked j)
      → (o : Option Vertex) → slice_get g k ≡ o → Walked k
  walked_any k low later None is on = absurd (vertex_there g k low is)
  walked_any k low later (Some (Begin next)) is on =
      walked_on k 0 (Begin next) is (omega arith) refl later on
  walked_any k low later (Some (Test var kids)) is on = let inside = kids_there k var kids on is in
      walked_on k (slice_index s var) (Test var kids) is inside
      (got_some kids (slice_index s var) inside) later on
  walked_any k low later (Some (Assign result c next)) is on =
      walked_on k 0 (Assign result c next) is (omega arith) refl later on
  walked_any k low later (Some End) is on = (
    [],
    tt,
    ap (λ (o : Option Vertex). cons_option (assigned_by o) []) is
        ∙ sym (ap given (step_end g s k is)),
  )

  walked : (left k : ℕ) → length g ≤ k + left → k < length g → Walked k
  walked zero k e low = absurd (omega arith)
  walked (suc left) k e low =
      walked_any k low (λ j less inside. walked left j (omega arith) inside) (slice_get g k) refl

  pub same_codes : 0 < length g → (results : ℕ)
      → assign_all (replicate results 0) (walk h s) ≡ assign_all (replicate results 0) (walk g s)
  same_codes there results =
      let zeros : List ℕ = replicate results 0 in
      let blank : (y : ℕ) → slice_index zeros y ≡ 0 =
      λ y. ⊎_elim (λ low. get_or-replicate results y 0 0 low)
      (λ past. get_or_past zeros y 0 (omega (arith, length-replicate {A = ℕ} results 0)))
      (cases_lt y results) in
      let path = walked (length g) 0 (omega arith) there shrinks.first in
      let once : are_different (given (from g 0)) ≡ true =
      sym (ap are_different path.2) ∙ ok.assigns_once (0 ∷ path.0) path.1 in
      sym (alike (length g) 0 (omega arith) there shrinks.first zeros (once, λ y on. blank y)
      ∙ ap (λ (n : ℕ). assign_all zeros (from h n)) first)

pub same_outcome : (m : Machine) (g h : List Vertex) (to : ℕ → ℕ) (some : ℕ → Bool) (s : List ℕ)
    → IsGraph g → Above h → Shrinks g h to some → to 0 ≡ 0 → HasKids g some s → 0 < length g
    → Eval m h s ≡ Eval m g s
same_outcome m g h to some s ok up_h shrinks first kids there =
    ap (with_codes m)
    (same_codes g h to some s ok up_h shrinks first kids there (length m.results))
