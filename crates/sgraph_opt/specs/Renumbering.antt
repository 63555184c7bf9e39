-- The vertices that a walk from the first one leaves, in the reverse of the order in which it
-- leaves them.
use Rattle.std.specs.Prelude.{ℕ, List, [], length}
use Rattle.sgraph.specs.declared.vertex.Vertex.{Vertex}
use Rattle.sgraph.specs.Graphs.{kids_at, left_after}

-- the vertices that are reached from the first one, each once
abbrev pub all_left : List Vertex → List ℕ
all_left h = left_after (length h) (kids_at h) [] 0
