-- Graphs: their walks, and how they are made.
use Rattle.std.specs.Prelude.{◌≡◌, ℕ, zero, suc, ◌+◌, ◌<◌, Bool, true, false, not, ◌&&◌, ◌==◌, nat_lt, List, [], ◌∷◌, map, length, replicate, take, drop, slice_get, slice_index, slice_set, filter_map, Contains, Option, Some, None, IsTrue, ⊤}
use Rattle.std.specs.List.{list_all}
use Rattle.polis_base.specs.Lists.{upto}
use Rattle.domains.specs.Names.{are_distinct}
use Rattle.transition_table.specs.NetworkFacts.{has, are_different}
use Rattle.transition_table.specs.declared.machine.Machine.{Machine}
use Rattle.transition_table.specs.declared.snapshot.Outcome.{Outcome}
use Rattle.domains.specs.Orders.{place}
use Rattle.sgraph.specs.declared.vertex.Vertex.{Vertex}
use Rattle.sgraph.specs.declared.vertex.Vertex.TheVariants.{Begin, Test, Assign, End}
use Rattle.sgraph.specs.Trails.{trail}

-- ---- walks
-- where a walk on a snapshot goes on from a vertex
abbrev pub next_of : List ℕ → ℕ → Vertex → Option ℕ
next_of s k (Begin next) = Some next
next_of s k (Test var kids) = slice_get kids (slice_index s var)
next_of s k (Assign result code next) = Some next
next_of s k End = None

-- the vertices of the walk on a snapshot
abbrev pub walk : List Vertex → List ℕ → List Vertex
walk g s = trail (next_of s) g 0 (Some 0)

-- the codes of the results after a vertex
abbrev pub assign : List ℕ → Vertex → List ℕ
assign codes (Begin next) = codes
assign codes (Test var kids) = codes
assign codes (Assign result code next) = slice_set codes result code
assign codes End = codes

abbrev pub assign_all : List ℕ → List Vertex → List ℕ
assign_all codes [] = codes
assign_all codes (v ∷ vs) = assign_all (assign codes v) vs

-- an outcome by the codes of the results
abbrev pub with_codes : Machine → List ℕ → Outcome
with_codes m codes = record {
  fires = slice_index codes 0 == 1;
  next = take (length m.states) (drop 1 codes);
  outs = drop (1 + length m.states) codes;
}

-- the codes that the walk assigns, and 0 elsewhere
abbrev pub Eval : Machine → List Vertex → List ℕ → Outcome
Eval m g s = with_codes m (assign_all (replicate (length m.results) 0) (walk g s))

-- ---- paths
abbrev pub kids_of : Vertex → List ℕ
kids_of (Begin next) = next ∷ []
kids_of (Test var kids) = kids
kids_of (Assign result code next) = next ∷ []
kids_of End = []

abbrev pub kids_in : Option Vertex → List ℕ
kids_in None = []
kids_in (Some v) = kids_of v

-- the children of the vertex of this number
abbrev pub kids_at : List Vertex → ℕ → List ℕ
kids_at g k = kids_in (slice_get g k)

-- each vertex of the path is a child of the one before it
abbrev pub IsPath : List Vertex → List ℕ → Type 0
IsPath g [] = ⊤
IsPath g (k ∷ []) = ⊤
IsPath g (k ∷ j ∷ path) = Contains (kids_at g k) j × IsPath g (j ∷ path)

-- The begin is vertex 0 and no other, and goes on to vertex 1; each child stands after its parent.
pub record GoesOn (g : List Vertex) : Type 0 where
  pub begin : slice_get g 0 ≡ Some (Begin 1)
  pub only : (k next : ℕ) → slice_get g k ≡ Some (Begin next) → k ≡ 0
  pub above :
      (k : ℕ) (v : Vertex) (j : ℕ)
      → slice_get g k ≡ Some v
      → j < length (kids_of v)
      → k < slice_index (kids_of v) j
  pub within :
      (k : ℕ) (v : Vertex) (j : ℕ)
      → slice_get g k ≡ Some v
      → j < length (kids_of v)
      → slice_index (kids_of v) j < length g

-- the variable that a vertex tests, or its result, numbered after the n variables
abbrev pub item_of : ℕ → Option Vertex → Option ℕ
item_of n None = None
item_of n (Some (Begin next)) = None
item_of n (Some (Test var kids)) = Some var
item_of n (Some (Assign result code next)) = Some (n + result)
item_of n (Some End) = None

abbrev pub tested_by : Option Vertex → Option ℕ
tested_by None = None
tested_by (Some (Begin next)) = None
tested_by (Some (Test var kids)) = Some var
tested_by (Some (Assign result code next)) = None
tested_by (Some End) = None

-- the variables and results of a path, the variables that it tests
abbrev pub items : ℕ → List Vertex → List ℕ → List ℕ
items n g path = filter_map (λ k. item_of n (slice_get g k)) path

abbrev pub tests : List Vertex → List ℕ → List ℕ
tests g path = filter_map (λ k. tested_by (slice_get g k)) path

abbrev pub rises : List ℕ → Bool
rises [] = true
rises (a ∷ []) = true
rises (a ∷ b ∷ rest) = nat_lt a b && rises (b ∷ rest)

-- along each path the variables and results come in the order's order
abbrev pub Ordered : ℕ → List ℕ → List Vertex → Type 0
Ordered n order g =
    (path : List ℕ)
    → IsPath g path
    → IsTrue (rises (map (place order) (items n g path)))

-- no path tests a variable twice
abbrev pub Once : List Vertex → Type 0
Once g = (path : List ℕ) → IsPath g path → IsTrue (are_different (tests g path))

-- ---- reduced
-- a vertex as a list of numbers
abbrev pub key_of : Vertex → List ℕ
key_of (Begin next) = 0 ∷ next ∷ []
key_of (Test var kids) = 1 ∷ var ∷ kids
key_of (Assign result code next) = 2 ∷ result ∷ code ∷ next ∷ []
key_of End = 3 ∷ []

abbrev pub are_same : List ℕ → Bool
are_same [] = true
are_same (k ∷ ks) = list_all (λ j. j == k) ks

-- it is no test, or its children aren't all the same
abbrev pub varies : Vertex → Bool
varies (Begin next) = true
varies (Test var kids) = not (are_same kids)
varies (Assign result code next) = true
varies End = true

-- no two vertices are equal, and no test has all its children the same
abbrev pub is_reduced : List Vertex → Bool
is_reduced g = are_distinct (map key_of g) && list_all varies g

abbrev pub Reduced : List Vertex → Type 0
Reduced g = IsTrue (is_reduced g)

-- ---- numbers
abbrev pub each : (List ℕ → ℕ → List ℕ) → List ℕ → List ℕ → List ℕ
each visit left [] = left
each visit left (k ∷ ks) = each visit (visit left k) ks

-- What a depth-first walk has left, the last one first, once it has left k too. It visits what
-- follows on k in order, and each thing once. No path is longer than the first number.
abbrev pub left_after : ℕ → (ℕ → List ℕ) → List ℕ → ℕ → List ℕ
left_after zero next left k = left
left_after (suc more) next left k =
    elim (has left k) as (λ b. List ℕ)
    [ true ↦ left | false ↦ k ∷ each (left_after more next) left (next k) ]

-- The vertices stand in the reverse postorder of the depth-first walk from the first one, which
-- comes to all of them.
abbrev pub Numbered : List Vertex → Type 0
Numbered g = left_after (length g) (kids_at g) [] 0 ≡ upto (length g)

-- ---- a test by edges
-- the place of a vertex's variable or result; the begin stands before all, and the end after
abbrev pub depth : ℕ → List ℕ → Option Vertex → ℕ
depth n order None = length order + 1
depth n order (Some (Begin next)) = 0
depth n order (Some (Test var kids)) = place order var + 1
depth n order (Some (Assign result code next)) = place order (n + result) + 1
depth n order (Some End) = length order + 1

abbrev pub deepens : ℕ → List ℕ → List Vertex → Vertex → Bool
deepens n order g v =
    list_all (λ j. nat_lt (depth n order (Some v)) (depth n order (slice_get g j))) (kids_of v)

-- each child's variable or result stands later in the order
abbrev pub edges_rise : ℕ → List ℕ → List Vertex → Bool
edges_rise n order g = list_all (deepens n order g) g
