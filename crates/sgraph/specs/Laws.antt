-- Laws of the definitions.
use Rattle.std.specs.Prelude.{◌≡◌, ℕ, true, List, length, IsTrue}
use Rattle.std.specs.List.{list_all}
use Rattle.domains.specs.Tables.{fits}
use Rattle.transition_table.specs.declared.machine.Machine.{Machine}
use Rattle.transition_table.specs.Transitions.{Transition, reading}
use Rattle.decision_diagram.specs.Diagrams.{Diagrams}
use Rattle.sgraph.specs.declared.vertex.Vertex.{Vertex}
use Rattle.sgraph.specs.Building.{graph_of, nodes_left, number_in}
use Rattle.sgraph.specs.Built.{IsDiagram, Built}
use Rattle.sgraph.specs.Facts.{IsGraph, is_well_made}
use Rattle.sgraph.specs.Graphs.{edges_rise, Ordered, Once, Reduced, Eval, GoesOn, Numbered}
use Rattle.sgraph.specs.Reactions.{IsGraphOf}
use Rattle.sgraph.specs.Walks.{FitsMachine, fits_one}

-- where each child's variable or result stands later in the order, each path is in the order
abbrev pub EdgesOrder : Type 0
EdgesOrder =
    (n : ℕ) (order : List ℕ) (g : List Vertex)
    → IsTrue (edges_rise n order g)
    → Ordered n order g

-- and tests no variable twice
abbrev pub EdgesOnce : Type 0
EdgesOnce = (n : ℕ) (order : List ℕ) (g : List Vertex) → IsTrue (edges_rise n order g) → Once g

-- and the list is a graph, where each vertex may stand where it does
abbrev pub EdgesMakeGraph : Type 0
EdgesMakeGraph =
    (n : ℕ) (order : List ℕ) (g : List Vertex)
    → IsTrue (edges_rise n order g)
    → IsTrue (is_well_made g)
    → IsGraph g

-- a graph that a machine's diagram became gives the machine's transition, goes on in the order, and
-- is reduced
abbrev pub BuiltIsRight : Type 0
BuiltIsRight =
    (m : Machine) (s : Diagrams) (root : ℕ) (g : List Vertex) (number : ℕ → ℕ)
    → IsDiagram m s root
    → Built m s root g number
    → ((snap : List ℕ) → fits m.vars snap ≡ true → Transition m (reading snap) (Eval m g snap))
    × IsTrue (edges_rise (length m.vars) s.order g)
    × Reduced g
    × FitsMachine m g

-- the graph of a machine's diagram is one that the diagram became, goes on, and is numbered
abbrev pub GraphIsBuilt : Type 0
GraphIsBuilt =
    (m : Machine) (s : Diagrams) (root : ℕ)
    → IsDiagram m s root
    → Built m s root (graph_of m s root) (number_in (nodes_left s (length m.vars) root))
    × GoesOn (graph_of m s root)
    × Numbered (graph_of m s root)

-- what holds of the graph that is built of a machine
pub record IsRightGraph (m : Machine) (order : List ℕ) (g : List Vertex) : Type 0 where
  pub graph : IsGraph g
  pub rises : IsTrue (edges_rise (length m.vars) order g)
  pub of_machine : IsGraphOf m order g

abbrev pub GraphIsRight : Type 0
GraphIsRight =
    (m : Machine) (s : Diagrams) (root : ℕ)
    → IsDiagram m s root
    → IsRightGraph m s.order (graph_of m s root)

-- in a numbered graph the begin goes on to vertex 1
abbrev pub NumberedGoesOn : Type 0
NumberedGoesOn = (g : List Vertex) → IsGraph g → Numbered g → GoesOn g

-- where each vertex may be one of the machine's graph, the graph fits it
abbrev pub FitsByTest : Type 0
FitsByTest =
    (m : Machine) (g : List Vertex)
    → IsTrue (list_all (fits_one m.vars m.results) g)
    → FitsMachine m g
