-- What the definitions say of the lamp's code.
use Rattle.std.specs.Prelude.{◌≡◌, true, [], ◌∷◌, IsTrue}
use Rattle.transition_table.specs.samples.Lamp.{lamp, lamp_machine}
use Rattle.transition_table.specs.Transitions.{blank}
use Rattle.sgraph.specs.Facts.{is_well_made}
use Rattle.sgraph.specs.Graphs.{edges_rise, Numbered}
use Rattle.sgraph.specs.SampleGraphs.{lamp_graph}
use Rattle.task_code.specs.Codes.{Lowered, Exec, StepsOf}
use Rattle.task_code.specs.Listings.{ListingText}
use Rattle.task_code.specs.SampleCodes.{lamp_order, lamp_code, small_graph, small_code, small_part, small_listing}

pub record Lamp : Type 0 where
  pub rises : IsTrue (edges_rise 2 lamp_order small_graph)
  pub made : IsTrue (is_well_made small_graph)
  pub numbered : Numbered small_graph
  pub plain : Lowered lamp_graph lamp_code
  pub small : Lowered small_graph small_code
  pub plain_steps : StepsOf lamp_code (1 ∷ 0 ∷ []) ≡ 7
  pub small_steps : StepsOf small_code (1 ∷ 0 ∷ []) ≡ 6
  pub idle_steps : StepsOf small_code (1 ∷ 1 ∷ []) ≡ 3
  pub turns_on :
      Exec lamp_machine small_code (1 ∷ 0 ∷ [])
      ≡ record { fires = true; next = 2 ∷ []; outs = 1 ∷ [] }
  pub stays_on : Exec lamp_machine small_code (1 ∷ 1 ∷ []) ≡ blank lamp_machine
  pub listing : ListingText lamp (small_part ∷ []) ≡ small_listing
