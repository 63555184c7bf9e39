-- Laws of sizes.
use Rattle.std.specs.Prelude.{◌≡◌, ℕ, List, length}
use Rattle.domains.specs.Orders.{IsPermutation}
use Rattle.transition_table.specs.declared.machine.Machine.{Machine}
use Rattle.transition_table.specs.Computed.{char}
use Rattle.transition_table.specs.Orders.{sizes_of}
use Rattle.transition_table.specs.Transitions.{IsDeterministic}
use Rattle.char_function.specs.Sizes.{Decides, IsSize, Size}

-- the function that reads the rows decides the characteristic function
abbrev pub CharDecides : Type 0
CharDecides = (m : Machine) → IsDeterministic m → Decides (char m) m

-- each order has a size: the computed one
abbrev pub HasSize : Type 0
HasSize = (m : Machine) (order : List ℕ) → IsDeterministic m → IsSize m order (Size m order)

-- and an order of a machine's variables and results has no other, whatever function decides
abbrev pub OneSize : Type 0
OneSize = (m : Machine) (order : List ℕ) (one other : ℕ) → IsPermutation order
    → length order ≡ length (sizes_of m) → IsSize m order one → IsSize m order other → one ≡ other
