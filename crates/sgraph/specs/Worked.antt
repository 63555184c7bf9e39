-- What the definitions say of small graphs.
use Rattle.std.specs.Prelude.{◌≡◌, false, [], ◌∷◌, IsTrue}
use Rattle.transition_table.specs.samples.Join.{join_machine}
use Rattle.transition_table.specs.samples.Lamp.{lamp_machine}
use Rattle.transition_table.specs.Worked.{firing}
use Rattle.transition_table.specs.Transitions.{blank}
use Rattle.sgraph.specs.declared.vertex.Vertex.TheVariants.{Begin, Test, Assign, End}
use Rattle.sgraph.specs.Building.{graph_of}
use Rattle.sgraph.specs.Facts.{is_well_made}
use Rattle.sgraph.specs.Graphs.{Eval, Numbered, Reduced, edges_rise, is_reduced, kids_at, left_after}
use Rattle.sgraph.specs.SampleGraphs.{lamp_diagram, lamp_graph, join_diagram, join_graph}

pub record Lamp : Type 0 where
  pub built : graph_of lamp_machine lamp_diagram 9 ≡ lamp_graph
  pub numbered : Numbered lamp_graph
  pub reduced : Reduced lamp_graph
  pub rises : IsTrue (edges_rise 2 lamp_diagram.order lamp_graph)
  pub made : IsTrue (is_well_made lamp_graph)
  pub turns_on : Eval lamp_machine lamp_graph (1 ∷ 0 ∷ []) ≡ firing (2 ∷ []) (1 ∷ [])
  pub stays_on : Eval lamp_machine lamp_graph (1 ∷ 1 ∷ []) ≡ blank lamp_machine

pub record Join : Type 0 where
  pub built : graph_of join_machine join_diagram 7 ≡ join_graph
  pub numbered : Numbered join_graph
  pub reduced : Reduced join_graph
  pub both : Eval join_machine join_graph (1 ∷ 1 ∷ []) ≡ firing [] (1 ∷ [])
  pub one : Eval join_machine join_graph (0 ∷ 1 ∷ []) ≡ blank join_machine

-- what isn't so: vertices in another order, two equal vertices, a test whose children are one
pub record Refused : Type 0 where
  pub order : left_after 5
      (kids_at (Begin 1 ∷ Test 0 (2 ∷ 3 ∷ []) ∷ Assign 0 1 4 ∷ Assign 0 0 4 ∷ End ∷ [])) [] 0
      ≡ 0 ∷ 1 ∷ 3 ∷ 2 ∷ 4 ∷ []
  pub twice : is_reduced (Begin 1 ∷ Test 0 (3 ∷ 2 ∷ []) ∷ Assign 0 1 4 ∷ Assign 0 1 4 ∷ End ∷ [])
      ≡ false
  pub idle : is_reduced (Begin 1 ∷ Test 0 (2 ∷ 2 ∷ []) ∷ Assign 0 1 3 ∷ End ∷ []) ≡ false
  pub end : is_well_made (Begin 1 ∷ End ∷ Assign 0 1 1 ∷ []) ≡ false
