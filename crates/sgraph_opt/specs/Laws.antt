-- Laws of the definitions.
use Rattle.std.specs.Prelude.{◌≡◌, ℕ, List}
use Rattle.transition_table.specs.declared.machine.Machine.{Machine}
use Rattle.transition_table.specs.Transitions.{IsDeterministic}
use Rattle.transition_table.specs.Orders.{Allowed}
use Rattle.sgraph.specs.declared.vertex.Vertex.{Vertex}
use Rattle.sgraph.specs.Facts.{IsGraph}
use Rattle.sgraph.specs.Reactions.{IsGraphOf}
use Rattle.sgraph_opt.specs.Smaller.{NoDefaults}

-- two graphs of one deterministic machine in one allowed order that assign no code 0 are the same
abbrev pub OneGraph : Type 0
OneGraph =
    (m : Machine) (order : List ℕ) (g h : List Vertex)
    → IsDeterministic m
    → Allowed m order
    → IsGraph g
    → IsGraph h
    → IsGraphOf m order g
    → IsGraphOf m order h
    → NoDefaults g
    → NoDefaults h
    → g ≡ h
