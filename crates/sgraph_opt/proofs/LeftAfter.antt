-- Leaving vertices, one after another.
use Rattle.std.proofs.Common.{◌≡◌, ℕ, suc, ◌+◌, ◌-◌, ◌<◌, ◌≤◌, Bool, true, false, List, ◌∷◌, ◌++◌, length, take, slice_get, slice_index, Some, ap, sym, subst, ◌∙◌, arith, []}
use Rattle.transition_table.specs.NetworkFacts.{has}
use Rattle.sgraph.specs.declared.vertex.Vertex.{Vertex}
use Rattle.sgraph.specs.Graphs.{kids_of, kids_in, kids_at, each, left_after}
use Rattle.sgraph.specs.inner.Marks.{turned, Marks}
use Rattle.sgraph_opt.specs.inner.Renumbering.{Rises}
use Rattle.sgraph.proofs.LeftAfter.{visit_there, visit_new, enough}
use Rattle.sgraph.proofs.NextNodes.{got, take_one, take_whole, turned_push, each_push, marked_is}
use Rattle.sgraph.proofs.LeftAfter.{each_same}
use Rattle.decision_diagram.proofs.ListItems.{read_within}
use Rattle.sgraph.proofs.EvalSteps.{got_some}

-- what follows on a vertex
pub kids_here : (h : List Vertex) (k : ℕ) (v : Vertex) (kids : List ℕ) → slice_get h k ≡ Some v
    → kids ≡ kids_of v → kids ≡ kids_at h k
kids_here h k v kids is e = e ∙ sym (ap kids_in is)

-- the vertices so far are left
pub left_more : (h : List Vertex) (kids first left new : List ℕ) (j kid : ℕ)
    → slice_get kids j ≡ Some kid → turned left
    ≡ each (left_after (length h) (kids_at h)) (turned first) (take j kids)
    → turned new ≡ left_after (length h) (kids_at h) (turned left) kid
    → turned new ≡ each (left_after (length h) (kids_at h)) (turned first) (take (j + 1) kids)
left_more h kids first left new j kid is_kid so_far one =
    let low = read_within kids j kid is_kid in
    let at = got kids j kid is_kid in
    let e : j + 1 ≡ suc j = omega arith in
    one
    ∙ ap (λ (xs : List ℕ). left_after (length h) (kids_at h) xs kid) so_far
    ∙ sym (each_push (left_after (length h) (kids_at h)) (turned first) (take j kids) kid)
    ∙ ap (λ (x : ℕ). each (left_after (length h) (kids_at h)) (turned first)
    (take j kids ++ x ∷ [])) (sym at)
    ∙ ap (each (left_after (length h) (kids_at h)) (turned first)) (sym (take_one kids j low))
    ∙ ap (λ (i : ℕ). each (left_after (length h) (kids_at h)) (turned first) (take i kids)) (sym e)

pub left_next : (h : List Vertex) (k : ℕ) (v : Vertex) (kids first left new : List ℕ) (i : ℕ)
    → slice_get h k ≡ Some v → kids ≡ kids_of v → i < length kids
    → turned left ≡ each (left_after (length h) (kids_at h)) (turned first) (take i (kids_at h k))
    → turned new ≡ left_after (length h) (kids_at h) (turned left) (slice_index kids i)
    → turned new
    ≡ each (left_after (length h) (kids_at h)) (turned first) (take (i + 1) (kids_at h k))
left_next h k v kids first left new i is_v e low so_far one =
    let is = kids_here h k v kids is_v e in
    subst (λ (xs : List ℕ). turned new
    ≡ each (left_after (length h) (kids_at h)) (turned first) (take (i + 1) xs)) is
    (left_more h kids first left new i (slice_index kids i) (got_some kids i low)
    (subst (λ (xs : List ℕ). turned left
    ≡ each (left_after (length h) (kids_at h)) (turned first) (take i xs)) (sym is) so_far) one)

there_at : (h : List Vertex) (n k : ℕ) (left : List ℕ) → length h ≡ suc n → has left k ≡ true
    → left ≡ left_after (length h) (kids_at h) left k
there_at h n k left e there =
    sym (ap (λ (m : ℕ). left_after m (kids_at h) left k) e ∙ visit_there (kids_at h) n left k there)

pub left_there : (h : List Vertex) (k : ℕ) (marks : List Bool) (left : List ℕ) → k < length h
    → Marks (length h) marks left → slice_get marks k ≡ Some true
    → turned left ≡ left_after (length h) (kids_at h) (turned left) k
left_there h k marks left low ok is =
    let n : ℕ = length h - 1 in
    let e : length h ≡ suc n = omega arith in
    there_at h n k (turned left) e (marked_is (length h) marks left k true ok is)

pub left_new : (h : List Vertex) → Rises h
    → (k : ℕ) (marks : List Bool) (kids first left new : List ℕ) (j : ℕ) → k < length h
    → Marks (length h) marks first → slice_get marks k ≡ Some false → kids ≡ kids_at h k
    → length kids ≤ j
    → turned left ≡ each (left_after (length h) (kids_at h)) (turned first) (take j kids)
    → new ≡ left ++ k ∷ [] → turned new ≡ left_after (length h) (kids_at h) (turned first) k
left_new h rises k marks kids first left new j low ok is is_kids high so_far e =
    let n : ℕ = length h - 1 in
    let f : length h ≡ suc n = omega arith in
    ap turned e
    ∙ turned_push left k
    ∙ ap (λ (xs : List ℕ). k ∷ xs)
    (so_far
    ∙ ap (each (left_after (length h) (kids_at h)) (turned first))
    (take_whole kids j high ∙ is_kids)
    ∙ each_same (left_after (length h) (kids_at h)) (left_after n (kids_at h)) (kids_at h k)
    (turned first) (λ l i inside.
    let r = rises k i inside in
    let up : k < slice_index (kids_at h k) i = r.0 in
    enough (kids_at h) (length h) rises (length h) n l (slice_index (kids_at h k) i) (omega arith)
    (omega arith) r.1))
    ∙ sym (visit_new (kids_at h) n (turned first) k
    (marked_is (length h) marks first k false ok is))
    ∙ ap (λ (m : ℕ). left_after m (kids_at h) (turned first) k) (sym f)

pub kid_inside : (h : List Vertex) → Rises h → (k j kid : ℕ) (kids : List ℕ) → kids ≡ kids_at h k
    → slice_get kids j ≡ Some kid → (k < kid) × (kid < length h)
kid_inside h rises k j kid kids is is_kid =
    let low = read_within kids j kid is_kid in
    let at = got kids j kid is_kid in
    let long : length kids ≡ length (kids_at h k) = ap (λ (xs : List ℕ). length xs) is in
    let r = rises k j (omega arith) in
    let up : k < slice_index (kids_at h k) j = r.0 in
    let inside : slice_index (kids_at h k) j < length h = r.1 in
    let same : slice_index kids j ≡ slice_index (kids_at h k) j =
    ap (λ (xs : List ℕ). slice_index xs j) is in
    (omega arith, omega arith)
