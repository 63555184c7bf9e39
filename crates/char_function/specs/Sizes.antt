-- The size of a machine's diagram under an order.
use Rattle.std.specs.Prelude.{◌≡◌, ℕ, Bool, List}
use Rattle.transition_table.specs.declared.machine.Machine.{Machine}
use Rattle.transition_table.specs.Computed.{char}
use Rattle.transition_table.specs.Orders.{Char, sizes_of}
use Rattle.decision_diagram.specs.Exact.{IsTrueWhere}
use Rattle.decision_diagram.specs.Sizes.{size_along}

-- on codes that fit, the function is true exactly where they are a snapshot and the codes of its
-- outcome
abbrev pub Decides : (List ℕ → Bool) → Machine → Type 0
Decides f m = IsTrueWhere (sizes_of m) f (Char m)

-- The sum over the places of the order of the number of different functions that arise from the
-- characteristic function by fixing the variables and results before the place, and that depend on
-- what stands there. The characteristic function is any one that decides the relation.
pub record IsSize (m : Machine) (order : List ℕ) (n : ℕ) : Type 0 where
  pub function : List ℕ → Bool
  pub decides : Decides function m
  pub size : n ≡ size_along function (sizes_of m) order

-- the same number by computation, for the contracts of private functions: that of the function
-- which reads the rows
abbrev pub Size : Machine → List ℕ → ℕ
Size m order = size_along (char m) (sizes_of m) order
