-- What a graph keeps.
use Rattle.std.specs.Prelude.{◌≡◌, ℕ, suc, ◌+◌, ◌<◌, ◌==◌, ◌&&◌, Bool, true, nat_lt, List, [], ◌∷◌, length, slice_get, slice_index, filter_map, Option, Some, None, IsTrue}
use Rattle.std.specs.List.{list_all}
use Rattle.transition_table.specs.NetworkFacts.{are_different}
use Rattle.sgraph.specs.declared.vertex.Vertex.{Vertex}
use Rattle.sgraph.specs.declared.vertex.Vertex.TheVariants.{Begin, Test, Assign, End}
use Rattle.sgraph.specs.Graphs.{kids_of, IsPath}

-- the result that a vertex assigns
abbrev pub assigned_by : Option Vertex → Option ℕ
assigned_by None = None
assigned_by (Some (Begin next)) = None
assigned_by (Some (Test var kids)) = None
assigned_by (Some (Assign result code next)) = Some result
assigned_by (Some End) = None

-- the results that a path assigns
abbrev pub assigned : List Vertex → List ℕ → List ℕ
assigned g path = filter_map (λ k. assigned_by (slice_get g k)) path

-- Vertex 0 is a begin and the last one an end, and there are no others; each child stands after its
-- parent, each test has a child, and no path assigns a result twice.
pub record IsGraph (g : List Vertex) : Type 0 where
  pub begin : (next : ℕ) × (slice_get g 0 ≡ Some (Begin next))
  pub only_begin : (k next : ℕ) → slice_get g k ≡ Some (Begin next) → k ≡ 0
  pub end : (k : ℕ) → k + 1 ≡ length g → slice_get g k ≡ Some End
  pub only_end : (k : ℕ) → slice_get g k ≡ Some End → k + 1 ≡ length g
  pub above :
      (k : ℕ) (v : Vertex) (j : ℕ)
      → slice_get g k ≡ Some v
      → j < length (kids_of v)
      → k < slice_index (kids_of v) j
  pub within :
      (k : ℕ) (v : Vertex) (j : ℕ)
      → slice_get g k ≡ Some v
      → j < length (kids_of v)
      → slice_index (kids_of v) j < length g
  pub some_kid :
      (k var : ℕ) (kids : List ℕ)
      → slice_get g k ≡ Some (Test var kids)
      → 0 < length kids
  pub assigns_once : (path : List ℕ) → IsPath g path → IsTrue (are_different (assigned g path))

-- ---- a test of a list
-- vertex k of so many may stand where it does
abbrev pub stands_well : ℕ → ℕ → Vertex → Bool
stands_well count k (Begin next) = k == 0 && nat_lt k next && nat_lt next count
stands_well count k (Test var kids) =
    nat_lt 0 k && nat_lt 0 (length kids) && list_all (λ j. nat_lt k j && nat_lt j count) kids
stands_well count k (Assign result code next) = nat_lt 0 k && nat_lt k next && nat_lt next count
stands_well count k End = nat_lt 0 k && k + 1 == count

abbrev pub stand_well : ℕ → ℕ → List Vertex → Bool
stand_well count k [] = true
stand_well count k (v ∷ vs) = stands_well count k v && stand_well count (suc k) vs

-- a list of more than one vertex in which each may stand where it does
abbrev pub is_well_made : List Vertex → Bool
is_well_made g = nat_lt 1 (length g) && stand_well (length g) 0 g
