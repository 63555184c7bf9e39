-- Diagrams and graphs of small machines.
use Rattle.std.specs.Prelude.{ℕ, List, ◌∷◌, []}
use Rattle.decision_diagram.specs.Diagrams.{Node, Diagrams}
use Rattle.sgraph.specs.declared.vertex.Vertex.{Vertex}
use Rattle.sgraph.specs.declared.vertex.Vertex.TheVariants.{Begin, Test, Assign, End}

abbrev pub inner : ℕ → List ℕ → Node
inner var kids = record { var = var; kids = kids }

-- the lamp reads press, s, and gives go, s, light; node 9 is the root
abbrev pub lamp_diagram : Diagrams
lamp_diagram = record {
  sizes = 2 ∷ 2 ∷ 2 ∷ 3 ∷ 2 ∷ [];
  order = 0 ∷ 1 ∷ 2 ∷ 3 ∷ 4 ∷ [];
  nodes =
      inner 4 (0 ∷ 1 ∷ [])
      ∷ inner 4 (1 ∷ 0 ∷ [])
      ∷ inner 3 (0 ∷ 0 ∷ 2 ∷ [])
      ∷ inner 3 (3 ∷ 0 ∷ 0 ∷ [])
      ∷ inner 2 (0 ∷ 4 ∷ [])
      ∷ inner 2 (5 ∷ 0 ∷ [])
      ∷ inner 1 (6 ∷ 7 ∷ [])
      ∷ inner 0 (7 ∷ 8 ∷ []) ∷ [];
}

abbrev pub lamp_graph : List Vertex
lamp_graph =
    Begin 1
    ∷ Test 0 (6 ∷ 2 ∷ [])
    ∷ Test 1 (3 ∷ 6 ∷ [])
    ∷ Assign 0 1 4
    ∷ Assign 1 2 5
    ∷ Assign 2 1 9
    ∷ Assign 0 0 7
    ∷ Assign 1 0 8
    ∷ Assign 2 0 9
    ∷ End ∷ []

-- the machine that joins a and b into c; node 7 is the root
abbrev pub join_diagram : Diagrams
join_diagram = record {
  sizes = 2 ∷ 2 ∷ 2 ∷ 2 ∷ [];
  order = 0 ∷ 1 ∷ 2 ∷ 3 ∷ [];
  nodes =
      inner 3 (0 ∷ 1 ∷ [])
      ∷ inner 3 (1 ∷ 0 ∷ [])
      ∷ inner 2 (0 ∷ 2 ∷ [])
      ∷ inner 2 (3 ∷ 0 ∷ [])
      ∷ inner 1 (5 ∷ 4 ∷ [])
      ∷ inner 0 (5 ∷ 6 ∷ []) ∷ [];
}

abbrev pub join_graph : List Vertex
join_graph =
    Begin 1
    ∷ Test 0 (5 ∷ 2 ∷ [])
    ∷ Test 1 (5 ∷ 3 ∷ [])
    ∷ Assign 0 1 4
    ∷ Assign 1 1 7
    ∷ Assign 0 0 6
    ∷ Assign 1 0 7
    ∷ End ∷ []
