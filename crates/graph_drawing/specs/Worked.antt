-- What the definitions say of small networks.
use Rattle.std.specs.Prelude.{◌≡◌, true, [], ◌∷◌, ◌++◌, codes}
use Rattle.std.specs.List.{list_all}
use Rattle.transition_table.specs.samples.Lamp.{lamp, lamp_machine}
use Rattle.transition_table.specs.samples.Join.{join}
use Rattle.transition_table.specs.samples.Value.{value}
use Rattle.transition_table.specs.samples.Echo.{echo, echo_machine}
use Rattle.transition_table.specs.samples.Two.{two}
use Rattle.transition_table.specs.samples.Pong.{pong}
use Rattle.sgraph.specs.Facts.{is_well_made}
use Rattle.sgraph.specs.SampleGraphs.{join_graph}
use Rattle.graph_drawing.specs.Words.{assign_label}
use Rattle.graph_drawing.specs.Drawings.{DrawingText, network_text}
use Rattle.graph_drawing.specs.samples.Week.{week}
use Rattle.graph_drawing.specs.samples.Graphs.{lamp_graph, value_graph, days_graph, bell_graph}
use Rattle.graph_drawing.specs.samples.Drawings.{lamp_network_drawing, lamp_graph_drawing, join_drawing, value_drawing, week_network_drawing, days_drawing, bell_drawing, two_drawing, pong_drawing}

-- whole drawings
pub record SampleDrawings : Type 0 where
  pub well_made :
      list_all is_well_made (lamp_graph ∷ value_graph ∷ days_graph ∷ bell_graph ∷ []) ≡ true
  pub lamp_drawn : DrawingText lamp (lamp_graph ∷ []) ≡ lamp_network_drawing ++ lamp_graph_drawing
  pub join_drawn : DrawingText join (join_graph ∷ []) ≡ join_drawing
  pub value_drawn : DrawingText value (value_graph ∷ []) ≡ value_drawing
  pub week_drawn :
      DrawingText week (days_graph ∷ bell_graph ∷ [])
      ≡ week_network_drawing ++ days_drawing ++ bell_drawing

-- networks alone, and labels of assignments
pub record SampleParts : Type 0 where
  pub two_drawn : network_text (two 10 0) ≡ two_drawing
  pub pong_drawn : network_text pong ≡ pong_drawing
  pub sets : assign_label echo echo_machine 1 4 ≡ codes "s := 3"
  pub emits : assign_label echo echo_machine 2 8 ≡ codes "emit w = 7"
  pub keeps : assign_label lamp lamp_machine 1 0 ≡ codes "s keeps"
