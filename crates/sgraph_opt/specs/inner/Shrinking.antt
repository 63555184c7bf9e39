-- Graphs from which vertices were left out or in which they were joined.
use Rattle.std.specs.Prelude.{◌≡◌, ◌⊎◌, ℕ, ◌<◌, Bool, List, map, length, slice_get, slice_index, Some, IsTrue}
use Rattle.sgraph.specs.declared.vertex.Vertex.{Vertex}
use Rattle.sgraph.specs.declared.vertex.Vertex.TheVariants.{Begin, Test, Assign, End}
use Rattle.sgraph.specs.Graphs.{kids_at}

-- Of some vertices of g, among them the first one and all their children, each has one of h that does
-- the same with its children's: a test whose children have all the same vertex, or an assignment of
-- the code 0, may have that of its child.
pub record Shrinks (g h : List Vertex) (to : ℕ → ℕ) (some : ℕ → Bool) : Type 0 where
  pub first : IsTrue (some 0)
  pub onward :
      (k i : ℕ)
      → IsTrue (some k)
      → i < length (kids_at g k)
      → IsTrue (some (slice_index (kids_at g k) i))
  pub begin :
      (next : ℕ)
      → slice_get g 0 ≡ Some (Begin next)
      → slice_get h 0 ≡ Some (Begin (to next))
  pub test : (k var : ℕ) (kids : List ℕ) → IsTrue (some k) → slice_get g k ≡ Some (Test var kids)
      → (slice_get h (to k) ≡ Some (Test var (map to kids)))
      ⊎ ((i : ℕ) → i < length kids → to (slice_index kids i) ≡ to k)
  pub assign :
      (k result code next : ℕ)
      → IsTrue (some k)
      → slice_get g k ≡ Some (Assign result code next)
      → (slice_get h (to k) ≡ Some (Assign result code (to next))) ⊎ ((code ≡ 0) × (to next ≡ to k))
  pub end : (k : ℕ) → IsTrue (some k) → slice_get g k ≡ Some End → slice_get h (to k) ≡ Some End

-- each of these tests has a child for the code that the snapshot has for its variable
abbrev pub HasKids : List Vertex → (ℕ → Bool) → List ℕ → Type 0
HasKids g some s =
    (k var : ℕ) (kids : List ℕ)
    → IsTrue (some k)
    → slice_get g k ≡ Some (Test var kids)
    → slice_index s var < length kids
