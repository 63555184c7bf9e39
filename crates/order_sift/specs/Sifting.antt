-- What sifting gives.
use Rattle.std.specs.Prelude.{◌≡◌, ℕ, ◌<◌, ◌≤◌, List, length}
use Rattle.polis_base.specs.declared.limits.TheConstants.{SIFTED_SNAPSHOTS_MAX}
use Rattle.domains.specs.Tables.{product}
use Rattle.transition_table.specs.declared.machine.Machine.{Machine}
use Rattle.transition_table.specs.Orders.{Allowed}
use Rattle.char_function.specs.Sizes.{IsSize}
use Rattle.char_function.specs.Orders.{first_order}
use Rattle.order_sift.specs.Moves.{IsMove}
use Rattle.order_sift.specs.Turns.{Sifts}

-- no allowed order that arises by one move has a size below the count
abbrev pub IsLeastByMoves : Machine → List ℕ → ℕ → Type 0
IsLeastByMoves m order count = (other : List ℕ) (size : ℕ) → IsMove order other → Allowed m other
    → IsSize m other size → count ≤ size

-- The order, the size under the first order, and that under this one. With more than 1,024
-- snapshots it is the first order. Otherwise sifting comes to it from the first order, beginning
-- with the first item, no single move that keeps each result after what it depends on is better,
-- and the first order stays where that holds of it already.
pub record IsSifted (m : Machine) (order : List ℕ) (first_count count : ℕ) : Type 0 where
  pub allowed : Allowed m order
  pub first : IsSize m (first_order m) first_count
  pub counted : IsSize m order count
  pub no_more : count ≤ first_count
  pub large : SIFTED_SNAPSHOTS_MAX < product m.vars → order ≡ first_order m
  pub sifts : product m.vars ≤ SIFTED_SNAPSHOTS_MAX
      → Sifts m order (first_order m) 0 (length (first_order m))
  pub least : product m.vars ≤ SIFTED_SNAPSHOTS_MAX → IsLeastByMoves m order count
  pub stays : product m.vars ≤ SIFTED_SNAPSHOTS_MAX → IsLeastByMoves m (first_order m) first_count
      → order ≡ first_order m
