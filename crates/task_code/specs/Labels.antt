-- Pieces of a listing's part.
use Rattle.std.specs.Prelude.{ℕ, List}
use Rattle.sgraph.specs.declared.vertex.Vertex.{Vertex}
use Rattle.task_code.specs.declared.instr.Instr.{Instr}
use Rattle.task_code.specs.Listings.{Part}

abbrev pub part_of : List ℕ → ℕ → ℕ → List Vertex → List Instr → Part
part_of order first count graph code =
    record { order = order; first = first; count = count; graph = graph; code = code }
