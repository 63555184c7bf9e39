-- Graphs of machines.
use Rattle.std.specs.Prelude.{ℕ, List, length, IsTrue}
use Rattle.domains.specs.Tables.{fits}
use Rattle.transition_table.specs.declared.machine.Machine.{Machine}
use Rattle.transition_table.specs.Transitions.{Transition, reading}
use Rattle.sgraph.specs.declared.vertex.Vertex.{Vertex}
use Rattle.sgraph.specs.Graphs.{Eval, Ordered, Once, Reduced, Numbered}
use Rattle.sgraph.specs.Walks.{FitsMachine}

-- The graph fits the machine and gives its transition on each snapshot. It follows the order, tests
-- no variable twice on a path, is reduced, and is numbered as a walk leaves it.
pub record IsGraphOf (m : Machine) (order : List ℕ) (g : List Vertex) : Type 0 where
  pub fits_machine : FitsMachine m g
  pub evaluates : (s : List ℕ) → IsTrue (fits m.vars s) → Transition m (reading s) (Eval m g s)
  pub ordered : Ordered (length m.vars) order g
  pub once : Once g
  pub reduced : Reduced g
  pub numbered : Numbered g
