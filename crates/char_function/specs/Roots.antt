-- The diagram of a machine's characteristic function.
use Rattle.std.specs.Prelude.{◌≡◌, ℕ, List}
use Rattle.decision_diagram.specs.Diagrams.{Diagrams, IsNode, value_of}
use Rattle.decision_diagram.specs.Reached.{CountsReached}
use Rattle.transition_table.specs.declared.machine.Machine.{Machine}
use Rattle.transition_table.specs.Orders.{sizes_of}
use Rattle.char_function.specs.Sizes.{Decides, IsSize}

-- The store is over the machine's variables and then its results, read in this order. The node is
-- true exactly on a snapshot with the codes of its outcome, and the count of what it reaches is the
-- machine's size.
pub record IsDiagramOf (m : Machine) (items : List ℕ) (s : Diagrams) (n : ℕ) : Type 0 where
  pub sizes : s.sizes ≡ sizes_of m
  pub order : s.order ≡ items
  pub node : IsNode s n
  pub exact : Decides (value_of s n) m
  pub size : (count : ℕ) → CountsReached s n count → IsSize m items count
