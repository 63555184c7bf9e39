-- What is to stand for a vertex where equal vertices are joined, by an index of the later vertices
-- that stand for themselves.
use Rattle.std.specs.Prelude.{◌≡◌, ◌⊎◌, ℕ, ◌<◌, ◌≤◌, ◌==◌, ◌&&◌, not, cond, Bool, true, false, List, map, length, slice_get, slice_index, Some, None, IsTrue}
use Rattle.std.specs.Str.{bytes_eq}
use Rattle.polis_base.specs.Index.{Keyed, found}
use Rattle.sgraph.specs.declared.vertex.Vertex.{Vertex}
use Rattle.sgraph.specs.declared.vertex.Vertex.TheVariants.{Begin, Test, Assign, End}
use Rattle.sgraph.specs.Graphs.{key_of, varies}
use Rattle.sgraph_opt.specs.inner.Representatives.{renamed, Standing}

-- the index is as before
abbrev pub Same : Keyed → Keyed → Type 0
Same old new = (q : List ℕ) → found new q ≡ found old q

-- r is the number that stood under the key, or else k, which stands there now
abbrev pub Entered : Keyed → Keyed → List ℕ → ℕ → ℕ → Type 0
Entered old new key k r =
    ((found old key ≡ Some r) × Same old new)
    ⊎ ((found old key ≡ None) × (r ≡ k)
    × ((q : List ℕ) → found new q ≡ cond (bytes_eq key q) (Some k) (found old q)))

-- a vertex that may stand for itself: no test whose children are all the same, and where assignments
-- of the code 0 are dropped, none of these
abbrev pub stays : Bool → Vertex → Bool
stays drops (Begin next) = true
stays drops (Test var kids) = varies (Test var kids)
stays drops (Assign result code next) = not (drops && code == 0)
stays drops End = true

-- r is chosen for vertex k
abbrev pub Chosen : Bool → (ℕ → ℕ) → ℕ → ℕ → Keyed → Keyed → Vertex → Type 0
Chosen drops to k r old new (Begin next) = (r ≡ k) × Same old new
Chosen drops to k r old new (Test var kids) =
    (((i : ℕ) → i < length kids → to (slice_index kids i) ≡ r) × Same old new)
    ⊎ (IsTrue (varies (Test var (map to kids)))
    × Entered old new (key_of (Test var (map to kids))) k r)
Chosen drops to k r old new (Assign result code next) =
    (IsTrue (drops && code == 0) × (to next ≡ r) × Same old new)
    ⊎ (IsTrue (not (drops && code == 0))
    × Entered old new (key_of (Assign result code (to next))) k r)
Chosen drops to k r old new End = (r ≡ k) × Same old new

-- a test or an assignment
abbrev pub is_inner : Vertex → Bool
is_inner (Begin next) = false
is_inner (Test var kids) = true
is_inner (Assign result code next) = true
is_inner End = false

-- vertex r, from number i on, stands for itself and has the key
pub record Has (g : List Vertex) (to : ℕ → ℕ) (i r : ℕ) (key : List ℕ) : Type 0 where
  pub vertex : Vertex
  pub from : i ≤ r
  pub is : slice_get g r ≡ Some vertex
  pub own : to r ≡ r
  pub inner : IsTrue (is_inner vertex)
  pub same : key ≡ key_of (renamed to vertex)

-- Each vertex from number i on has one that may stand for it, those that stand for themselves stay,
-- and the index has exactly the tests and assignments that stand for themselves.
pub record Sharing (drops : Bool) (g : List Vertex) (reps : List ℕ) (index : Keyed) (i : ℕ) : Type 0 where
  pub stands : Standing g reps i
  pub stay :
      (k : ℕ) (v : Vertex)
      → i ≤ k
      → slice_get g k ≡ Some v
      → slice_index reps k ≡ k
      → IsTrue (stays drops (renamed (slice_index reps) v))
  pub met : (key : List ℕ) (r : ℕ) → found index key ≡ Some r → Has g (slice_index reps) i r key
  pub all : (key : List ℕ) (r : ℕ) → Has g (slice_index reps) i r key → found index key ≡ Some r

-- no two vertices that stand for themselves are equal, and they stay
pub record Shared (drops : Bool) (g : List Vertex) (reps : List ℕ) : Type 0 where
  pub stay :
      (k : ℕ) (v : Vertex)
      → slice_get g k ≡ Some v
      → slice_index reps k ≡ k
      → IsTrue (stays drops (renamed (slice_index reps) v))
  pub apart :
      (a b : ℕ) (v w : Vertex)
      → slice_get g a ≡ Some v
      → slice_get g b ≡ Some w
      → slice_index reps a ≡ a
      → slice_index reps b ≡ b
      → renamed (slice_index reps) v ≡ renamed (slice_index reps) w
      → a ≡ b
