-- One item, and all items in turn. Sizes are the computed ones here.
use Rattle.std.specs.Prelude.{◌≡◌, ◌↔◌, ℕ, ◌<◌, ◌≤◌, List, length}
use Rattle.transition_table.specs.declared.machine.Machine.{Machine}
use Rattle.transition_table.specs.Orders.{Allowed}
use Rattle.char_function.specs.Sizes.{Size}
use Rattle.order_sift.specs.Moves.{IsMove, moved}
use Rattle.order_sift.specs.Turns.{placed, IsBetterPlace, Sifts}

-- the places to which the item at place i may move are those from the first to the last
abbrev pub AreAllowedPlaces : Machine → List ℕ → ℕ → ℕ → ℕ → Type 0
AreAllowedPlaces m order i first last = (j : ℕ) → j < length order → Allowed m (moved order i j)
    ↔ ((first ≤ j) × (j ≤ last))

-- an allowed order with its size
pub record IsCounted (m : Machine) (order : List ℕ) (count : ℕ) : Type 0 where
  pub allowed : Allowed m order
  pub counted : count ≡ Size m order

-- no allowed order that arises by one move has a smaller size
abbrev pub NoneSmaller : Machine → List ℕ → Type 0
NoneSmaller m order = (other : List ℕ) → IsMove order other → Allowed m other
    → Size m order ≤ Size m other

-- the item has moved to its better place
abbrev pub HasMoved : Machine → ℕ → (old new : List ℕ) → Type 0
HasMoved m item old new = (j : ℕ) × IsBetterPlace m old item j × (new ≡ placed old item j)

-- Sifting comes from the one order, item and number to the other: the last order of the latter is
-- the last one of the former.
abbrev pub ComesTo : Machine → (old : List ℕ) → (item left : ℕ) → (new : List ℕ) → (next rest : ℕ)
    → Type 0
ComesTo m old item left new next rest =
    (last : List ℕ) → Sifts m last new next rest → Sifts m last old item left
