-- Vertices that stand for others.
use Rattle.std.specs.Prelude.{◌≡◌, ◌⊎◌, ℕ, ◌<◌, ◌≤◌, ◌==◌, cond, List, map, length, slice_get, slice_index, Some}
use Rattle.sgraph.specs.declared.vertex.Vertex.{Vertex}
use Rattle.sgraph.specs.declared.vertex.Vertex.TheVariants.{Begin, Test, Assign, End}

-- the vertex with other children
abbrev pub renamed : (ℕ → ℕ) → Vertex → Vertex
renamed to (Begin next) = Begin (to next)
renamed to (Test var kids) = Test var (map to kids)
renamed to (Assign result code next) = Assign result code (to next)
renamed to End = End

-- r is a later vertex that stands for itself, and does what v does with the same children
pub record IsTwin (g : List Vertex) (to : ℕ → ℕ) (k r : ℕ) (v : Vertex) : Type 0 where
  pub other : Vertex
  pub later : k < r
  pub own : to r ≡ r
  pub is : slice_get g r ≡ Some other
  pub same : renamed to other ≡ renamed to v

-- r may stand for vertex k, where the vertices after it have such: it is k itself, or what stands
-- for all its children, or what stands for the child where the code is 0, or its twin
abbrev pub IsRep : List Vertex → (ℕ → ℕ) → ℕ → ℕ → Vertex → Type 0
IsRep g to k r (Begin next) = r ≡ k
IsRep g to k r (Test var kids) =
    (r ≡ k) ⊎ ((i : ℕ) → i < length kids → to (slice_index kids i) ≡ r)
    ⊎ IsTwin g to k r (Test var kids)
IsRep g to k r (Assign result code next) =
    (r ≡ k) ⊎ ((code ≡ 0) × (to next ≡ r)) ⊎ IsTwin g to k r (Assign result code next)
IsRep g to k r End = r ≡ k

-- each vertex from number i on has one that may stand for it
pub record Standing (g : List Vertex) (reps : List ℕ) (i : ℕ) : Type 0 where
  pub long : length reps ≡ length g
  pub each :
      (k : ℕ) (v : Vertex)
      → i ≤ k
      → slice_get g k ≡ Some v
      → IsRep g (slice_index reps) k (slice_index reps k) v

-- what stands for vertex k where assignments of the code 0 are left out
abbrev pub past_default : (ℕ → ℕ) → ℕ → Vertex → ℕ
past_default to k (Begin next) = k
past_default to k (Test var kids) = k
past_default to k (Assign result code next) = cond (code == 0) (to next) k
past_default to k End = k

-- so it is of each vertex from number i on
pub record Dropping (g : List Vertex) (reps : List ℕ) (i : ℕ) : Type 0 where
  pub long : length reps ≡ length g
  pub each :
      (k : ℕ) (v : Vertex)
      → i ≤ k
      → slice_get g k ≡ Some v
      → slice_index reps k ≡ past_default (slice_index reps) k v
