-- Single moves of an order.
use Rattle.std.specs.Prelude.{◌≡◌, ℕ, ◌+◌, ◌<◌, Bool, List, [], ◌∷◌, ◌++◌, length, take, drop, slice_index}
use Rattle.std.specs.List.{insert, remove}
use Rattle.decision_diagram.specs.Sets.{stands, set_level, sum_of_levels}

-- the item at place i stands at place j, and the others are as they were
abbrev pub moved : List ℕ → ℕ → ℕ → List ℕ
moved order i j = insert (remove order i) j (slice_index order i)

-- the other order arises by moving one item
abbrev pub IsMove : List ℕ → List ℕ → Type 0
IsMove order other = (i : ℕ) × (j : ℕ) × (i < length order) × (j < length order)
    × (other ≡ moved order i j)

-- What an order costs where the item stands before place j of the rest: the levels of those before
-- it without it, its own level, and the levels of those after it with it. The first and the last do
-- not speak of where it stands.
abbrev pub cost_at : (List ℕ → Bool) → List ℕ → List ℕ → ℕ → ℕ → ℕ
cost_at f sizes rest x j =
    sum_of_levels f sizes [] (take j rest)
    + (set_level f sizes (stands (take j rest)) x
    + sum_of_levels f sizes (take j rest ++ x ∷ []) (drop j rest))
