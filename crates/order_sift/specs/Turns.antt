-- Item by item, from an order to the one that sifting gives. The sizes are the computed ones, of
-- which `HasSize` and `OneSize` say that they are the sizes of the orders.
use Rattle.std.specs.Prelude.{ℕ, zero, suc, ◌<◌, ◌≤◌, ◌==◌, cond, List, length}
use Rattle.domains.specs.Orders.{place}
use Rattle.transition_table.specs.declared.machine.Machine.{Machine}
use Rattle.transition_table.specs.Orders.{Allowed}
use Rattle.char_function.specs.Sizes.{Size}
use Rattle.order_sift.specs.Moves.{moved}

-- the item stands at place j, and the others keep their order
abbrev pub placed : List ℕ → ℕ → ℕ → List ℕ
placed order item j = moved order (place order item) j

-- there is such a place, and with the item there each result stands after what it depends on
abbrev pub IsAllowedPlace : Machine → List ℕ → ℕ → ℕ → Type 0
IsAllowedPlace m order item j = (j < length order) × Allowed m (placed order item j)

-- no allowed place of the item has a smaller size than the order has
abbrev pub IsAtBest : Machine → List ℕ → ℕ → Type 0
IsAtBest m order item =
    (j : ℕ) → IsAllowedPlace m order item j → Size m order ≤ Size m (placed order item j)

-- the first of the item's allowed places that have the least size, and a smaller one than the order
pub record IsBetterPlace (m : Machine) (order : List ℕ) (item j : ℕ) : Type 0 where
  pub allowed : IsAllowedPlace m order item j
  pub smaller : Size m (placed order item j) < Size m order
  pub least :
      (k : ℕ)
      → IsAllowedPlace m order item k
      → Size m (placed order item j) ≤ Size m (placed order item k)
  pub first :
      (k : ℕ)
      → k < j
      → IsAllowedPlace m order item k
      → Size m (placed order item j) < Size m (placed order item k)

-- the item after this one, of so many: the first follows the last
abbrev pub next_item : ℕ → ℕ → ℕ
next_item items item = cond (suc item == items) 0 (suc item)

-- Sifting comes from an order to the last one, where this item is next, and so many items in a row
-- are still to stand. All stood; or this item is at its best, and stands; or it moves to its better
-- place, and a turn of all items begins with the item after it.
pub data Sifts (m : Machine) (last : List ℕ) : List ℕ → ℕ → ℕ → Type 0 where
  AllStood : (item : ℕ) → Sifts m last last item zero
  Stands : (order : List ℕ) (item left : ℕ) → IsAtBest m order item
      → Sifts m last order (next_item (length order) item) left
      → Sifts m last order item (suc left)
  Moves : (order : List ℕ) (item left j : ℕ) → IsBetterPlace m order item j
      → Sifts m last (placed order item j) (next_item (length order) item) (length order)
      → Sifts m last order item (suc left)
