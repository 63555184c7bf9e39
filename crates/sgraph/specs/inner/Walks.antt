-- A graph of a machine, and what a walk makes of an outcome.
use Rattle.std.specs.Prelude.{ℕ, ◌<◌, List, length, slice_index, ⊤}
use Rattle.sgraph.specs.declared.vertex.Vertex.{Vertex}
use Rattle.sgraph.specs.declared.vertex.Vertex.TheVariants.{Begin, Test, Assign, End}

-- the vertex of number k of so many, on the codes of a snapshot, with so many results
abbrev pub MayWalk : ℕ → List ℕ → ℕ → ℕ → Vertex → Type 0
MayWalk count s results k (Begin next) = (k < next) × (next < count)
MayWalk count s results k (Test var kids) =
    (var < length s) × (slice_index s var < length kids)
    × (k < slice_index kids (slice_index s var)) × (slice_index kids (slice_index s var) < count)
MayWalk count s results k (Assign result code next) =
    (result < results) × (k < next) × (next < count)
MayWalk count s results k End = ⊤
