-- Walks on a snapshot from a vertex on, and what holds of a vertex where it holds of its children.
use Rattle.std.proofs.Common.{◌≡◌, ◌⊎◌, inl, inr, ℕ, zero, suc, ◌+◌, ◌<◌, ◌≤◌, true, List, [], ◌∷◌, length, slice_get, slice_index, Option, Some, None, refl, ap, ◌∙◌, arith}
use Rattle.domains.specs.Tables.{fits}
use Rattle.transition_table.specs.declared.machine.Machine.{Machine}
use Rattle.transition_table.proofs.Ranges.{below_size}
use Rattle.sgraph.specs.declared.vertex.Vertex.{Vertex}
use Rattle.sgraph.specs.declared.vertex.Vertex.TheVariants.{Begin, Test, Assign, End}
use Rattle.sgraph.specs.Facts.{IsGraph}
use Rattle.sgraph.specs.Graphs.{next_of, kids_of}
use Rattle.sgraph.specs.Trails.{trail}
use Rattle.sgraph.specs.Walks.{FitsMachine}
use Rattle.sgraph.proofs.EvalSteps.{got_some}
use Rattle.sgraph.proofs.IsGraph.{there_is}
use Rattle.sgraph.proofs.Trails.{Onward, trail_at}

-- the vertices of the walk on a snapshot from a vertex on
abbrev pub walk_from : List Vertex → List ℕ → ℕ → List Vertex
walk_from g s k = trail (next_of s) g 0 (Some k)

pub nowhere_on : {X : Type 0} (next : ℕ → X → Option ℕ) (xs : List X) (base : ℕ)
    → trail next xs base None ≡ []
nowhere_on next [] base = refl
nowhere_on next (x ∷ xs) base = nowhere_on next xs (suc base)

pub one_step : (g : List Vertex) (s : List ℕ) (k : ℕ) (v : Vertex) → slice_get g k ≡ Some v
    → Onward k (next_of s k v) → walk_from g s k ≡ v ∷ trail (next_of s) g 0 (next_of s k v)
one_step g s k v is onward = trail_at (next_of s) g 0 k k v is (omega arith) onward

pub step_on : (g : List Vertex) (s : List ℕ) (k j : ℕ) (v : Vertex) → slice_get g k ≡ Some v
    → next_of s k v ≡ Some j → k < j → walk_from g s k ≡ v ∷ walk_from g s j
step_on g s k j v is next up =
    let onward : Onward k (next_of s k v) = rw next up in
    one_step g s k v is onward ∙ ap (λ (o : Option ℕ). v ∷ trail (next_of s) g 0 o) next

pub step_end : (g : List Vertex) (s : List ℕ) (k : ℕ) → slice_get g k ≡ Some End
    → walk_from g s k ≡ End ∷ []
step_end g s k is =
    one_step g s k End is tt ∙ ap (λ (vs : List Vertex). End ∷ vs) (nowhere_on (next_of s) g 0)

-- the child to which a walk goes on
abbrev pub chosen : List ℕ → Vertex → ℕ
chosen s (Begin next) = 0
chosen s (Test var kids) = slice_index s var
chosen s (Assign result code next) = 0
chosen s End = 0

abbrev pub child : Vertex → ℕ → ℕ
child v i = slice_index (kids_of v) i

-- the vertex is an end, or the walk goes on to its chosen child
abbrev pub Steps : List Vertex → List ℕ → ℕ → Vertex → Type 0
Steps g s k v = ((v ≡ End) × (walk_from g s k ≡ v ∷ []))
    ⊎ ((chosen s v < length (kids_of v))
    × (walk_from g s k ≡ v ∷ walk_from g s (child v (chosen s v))))

pub steps : (m : Machine) (g : List Vertex) (s : List ℕ) → IsGraph g → FitsMachine m g
    → fits m.vars s ≡ true → (k : ℕ) (v : Vertex) → slice_get g k ≡ Some v → Steps g s k v
steps m g s ok fit_g fit k (Begin next) is = inr (
  omega arith,
  step_on g s k next (Begin next) is refl (ok.above k (Begin next) 0 is (omega arith)),
)
steps m g s ok fit_g fit k (Test var kids) is =
    let test = fit_g.tests k var kids is in
    let code = below_size m.vars s var fit test.0 in
    let long : length kids ≡ slice_index m.vars var = test.1 in
    let inside : slice_index s var < length kids = omega (arith, code, long) in (
    inr (
      inside,
      step_on g s k (slice_index kids (slice_index s var)) (Test var kids) is
          (got_some kids (slice_index s var) inside)
          (ok.above k (Test var kids) (slice_index s var) is inside),
    )
    )
steps m g s ok fit_g fit k (Assign result code next) is = inr (
  omega arith,
  step_on g s k next (Assign result code next) is refl
      (ok.above k (Assign result code next) 0 is (omega arith)),
)
steps m g s ok fit_g fit k End is = inl (refl, step_end g s k is)

-- what holds of each vertex of whose children it holds
up_to : (g : List Vertex) → IsGraph g → (P : ℕ → Type 0)
    → ((k : ℕ) (v : Vertex) → slice_get g k ≡ Some v
    → ((i : ℕ) → i < length (kids_of v) → P (child v i)) → P k)
    → (left k : ℕ) → length g ≤ k + left → k < length g → P k
up_to g ok P one zero k enough low = absurd (omega arith)
up_to g ok P one (suc left) k enough low =
    let there = there_is g k low in
    one k there.0 there.1 (λ i inside.
    let up : k < child there.0 i = ok.above k there.0 i there.1 inside in
    up_to g ok P one left (child there.0 i) (omega arith) (ok.within k there.0 i there.1 inside))

-- holds of all
pub by_children : (g : List Vertex) → IsGraph g → (P : ℕ → Type 0)
    → ((k : ℕ) (v : Vertex) → slice_get g k ≡ Some v
    → ((i : ℕ) → i < length (kids_of v) → P (child v i)) → P k)
    → (k : ℕ) → k < length g → P k
by_children g ok P one k low = up_to g ok P one (length g) k (omega arith) low
