-- Graphs of small machines, without assignments of the code 0.
use Rattle.std.specs.Prelude.{List, [], ◌∷◌}
use Rattle.sgraph.specs.declared.vertex.Vertex.{Vertex}
use Rattle.sgraph.specs.declared.vertex.Vertex.TheVariants.{Begin, Test, Assign, End}

abbrev pub lamp_graph : List Vertex
lamp_graph =
    Begin 1
    ∷ Test 0 (6 ∷ 2 ∷ [])
    ∷ Test 1 (3 ∷ 6 ∷ [])
    ∷ Assign 0 1 4
    ∷ Assign 1 2 5
    ∷ Assign 2 1 6
    ∷ End ∷ []

abbrev pub value_graph : List Vertex
value_graph =
    Begin 1
    ∷ Test 0 (4 ∷ 4 ∷ 4 ∷ 4 ∷ 4 ∷ 4 ∷ 2 ∷ 4 ∷ 4 ∷ [])
    ∷ Assign 0 1 3
    ∷ Assign 1 1 4
    ∷ End ∷ []

abbrev pub days_graph : List Vertex
days_graph =
    Begin 1
    ∷ Test 0 (5 ∷ 5 ∷ 5 ∷ 5 ∷ 5 ∷ 5 ∷ 3 ∷ 2 ∷ [])
    ∷ Assign 1 7 4
    ∷ Assign 1 6 4
    ∷ Assign 0 1 5
    ∷ End ∷ []

abbrev pub bell_graph : List Vertex
bell_graph =
    Begin 1
    ∷ Test 0 (4 ∷ 4 ∷ 4 ∷ 4 ∷ 4 ∷ 4 ∷ 4 ∷ 2 ∷ [])
    ∷ Assign 0 1 3
    ∷ Assign 1 1 4
    ∷ End ∷ []
