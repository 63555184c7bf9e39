-- The graph that is numbered again, vertex by vertex.
use Rattle.std.specs.Prelude.{ℕ, ◌<◌, List, map, length, slice_get, slice_index, unwrap_or}
use Rattle.domains.specs.Orders.{place}
use Rattle.sgraph.specs.declared.vertex.Vertex.{Vertex}
use Rattle.sgraph.specs.declared.vertex.Vertex.TheVariants.{End}
use Rattle.sgraph.specs.Graphs.{kids_at}
use Rattle.sgraph_opt.specs.Renumbering.{all_left}
use Rattle.sgraph_opt.specs.inner.Representatives.{renamed}

abbrev pub vertex_at : List Vertex → ℕ → Vertex
vertex_at h k = unwrap_or (slice_get h k) End

-- the vertices that the walk leaves, with their new numbers
abbrev pub numbered_of : List Vertex → List Vertex
numbered_of h = map (λ k. renamed (place (all_left h)) (vertex_at h k)) (all_left h)

-- each child stands after its parent and within
abbrev pub Rises : List Vertex → Type 0
Rises h =
    (k i : ℕ)
    → i < length (kids_at h k)
    → (k < slice_index (kids_at h k) i) × (slice_index (kids_at h k) i < length h)

-- the graph in which each vertex has what stands for its children
abbrev pub replaced : List Vertex → List ℕ → List Vertex
replaced g reps = map (renamed (slice_index reps)) g
