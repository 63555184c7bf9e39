-- Places that are below a length.
use Rattle.std.proofs.Common.{◌≡◌, ◌+◌, ◌*◌, ◌<◌, ◌≤◌, ℕ, zero, suc, List, length, slice_get, Some, sym, subst, arith}
use Rattle.transition_table.specs.declared.machine.Machine.{Machine}
use Rattle.transition_table.specs.Orders.{sizes_of}
use Rattle.char_function.specs.inner.Left.{IsOrdered}
use Rattle.char_function.proofs.FixedKids.{item_of}

-- an item of the order has a size
pub item_below : {m : Machine} (order sizes : List ℕ) (p item from : ℕ) → IsOrdered m order
    → sizes ≡ sizes_of m → p < length order → slice_get order p ≡ Some item → from ≡ item
    → from < length sizes
item_below {m} order sizes p item from ordered all low got is =
    let inside = (item_of m order p item ordered low got).inside in
    subst (λ (xs : List ℕ). from < length xs) (sym all) (omega arith)

-- blocks that aren't empty are no more than their items
pub block_below : (j size n : ℕ) → 1 ≤ size → j * size + size ≤ n → j < n
block_below j zero n one within = absurd (omega arith)
block_below j (suc size) n one within = omega arith
