-- Keys and lists, one item more.
use Rattle.std.proofs.Common.{◌≡◌, ◌≢◌, ⊎_elim, ℕ, zero, suc, ◌+◌, ◌<◌, true, not, List, [], ◌∷◌, ◌++◌, map, length, take, slice_get, slice_index, Some, refl, ap, sym, ◌∙◌, arith}
use Rattle.std.proofs.lemmas.Bool.{cases_lt, false_from_ne_true}
use Rattle.sgraph.specs.declared.vertex.Vertex.TheVariants.{Test}
use Rattle.sgraph.specs.Graphs.{are_same, varies}
use Rattle.sgraph.proofs.IsGraph.{long_map}
use Rattle.sgraph_opt.proofs.Reduced.{all_eq}
use Rattle.sgraph.proofs.NextNodes.{got}
use Rattle.decision_diagram.proofs.ListItems.{read_within}
use Rattle.decision_diagram.proofs.ByVariable.{index_map}
use Rattle.polis_base.proofs.Places.{map_push, take_one}

pub one_more_same : (reps kids : List ℕ) (i x a first : ℕ)
    → ((j : ℕ) → j < i → slice_index reps (slice_index kids j) ≡ first) → slice_get kids i ≡ Some x
    → slice_get reps x ≡ Some a → a ≡ first → (j : ℕ) → j < i + 1
    → slice_index reps (slice_index kids j) ≡ first
one_more_same reps kids i x a first so_far is_x is_a same j low =
    ⊎_elim
    (λ less. so_far j less)
    (λ last.
    let e : j ≡ i = omega arith in
    ap (λ (n : ℕ). slice_index reps (slice_index kids n)) e
    ∙ ap (slice_index reps) (got kids i x is_x) ∙ got reps x a is_a ∙ same)
    (cases_lt j i)

same_kids : (f : ℕ → ℕ) (kids : List ℕ) → are_same (map f kids) ≡ true → (i : ℕ) → i < length kids
    → f (slice_index kids i) ≡ f (slice_index kids 0)
same_kids f [] h i low = absurd (omega arith)
same_kids f (k ∷ ks) h zero low = refl
same_kids f (k ∷ ks) h (suc i) low =
    sym (index_map f ks i (omega arith))
    ∙ all_eq (f k) (map f ks) h i (let l = long_map f ks in omega arith)

-- a child with another number than the first
pub differing : (reps kids : List ℕ) (i x a y first : ℕ) → slice_get kids 0 ≡ Some y
    → slice_get reps y ≡ Some first → slice_get kids i ≡ Some x → slice_get reps x ≡ Some a
    → a ≢ first → (var : ℕ) → varies (Test var (map (slice_index reps) kids)) ≡ true
differing reps kids i x a y first is_y is_first is_x is_a other var =
    ap not (false_from_ne_true (are_same (map (slice_index reps) kids)) (λ on.
    other (sym (ap (slice_index reps) (got kids i x is_x) ∙ got reps x a is_a)
    ∙ same_kids (slice_index reps) kids on i (read_within kids i x is_x)
    ∙ ap (slice_index reps) (got kids 0 y is_y) ∙ got reps y first is_first)))

pub key_more : (reps kids key more : List ℕ) (var i x a : ℕ)
    → key ≡ 1 ∷ var ∷ map (slice_index reps) (take i kids) → slice_get kids i ≡ Some x
    → slice_get reps x ≡ Some a → more ≡ key ++ a ∷ []
    → more ≡ 1 ∷ var ∷ map (slice_index reps) (take (i + 1) kids)
key_more reps kids key more var i x a so_far is_x is_a e =
    let f : i + 1 ≡ suc i = omega arith in
    e
    ∙ ap (λ (ks : List ℕ). ks ++ a ∷ []) so_far
    ∙ ap (λ (n : ℕ). 1 ∷ var ∷ (map (slice_index reps) (take i kids) ++ n ∷ []))
    (sym (got reps x a is_a))
    ∙ ap (λ (ks : List ℕ). 1 ∷ var ∷ ks) (sym (map_push (slice_index reps) (take i kids) x))
    ∙ ap (λ (ks : List ℕ). 1 ∷ var ∷ map (slice_index reps) ks) (sym (take_one kids i x is_x))
    ∙ ap (λ (n : ℕ). 1 ∷ var ∷ map (slice_index reps) (take n kids)) (sym f)
