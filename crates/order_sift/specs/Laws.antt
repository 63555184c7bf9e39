-- Laws of moves and of sifting.
use Rattle.std.specs.Prelude.{◌≡◌, ℕ, ◌+◌, Bool, List, ◌++◌, length, IsTrue}
use Rattle.std.specs.List.{insert}
use Rattle.domains.specs.Orders.{IsPermutation}
use Rattle.domains.specs.Tables.{are_sizes}
use Rattle.transition_table.specs.declared.machine.Machine.{Machine}
use Rattle.decision_diagram.specs.Sizes.{size_along}
use Rattle.decision_diagram.specs.Sets.{stands, set_level, sum_of_levels}
use Rattle.order_sift.specs.Moves.{cost_at}
use Rattle.order_sift.specs.Sifting.{IsSifted}
use Rattle.order_sift.specs.Turns.{Sifts}

-- sets with the same items have the same levels
abbrev pub LevelsOfSets : Type 0
LevelsOfSets = (f : List ℕ → Bool) (sizes : List ℕ) (one other : ℕ → Bool) (v : ℕ)
    → ((w : ℕ) → one w ≡ other w) → set_level f sizes one v ≡ set_level f sizes other v

-- levels of a prefix and of what comes after it
abbrev pub LevelsJoin : Type 0
LevelsJoin = (f : List ℕ → Bool) (sizes before xs ys : List ℕ)
    → sum_of_levels f sizes before (xs ++ ys)
    ≡ sum_of_levels f sizes before xs + sum_of_levels f sizes (before ++ xs) ys

-- after the same set of items the levels are the same, in whatever order those stood
abbrev pub LevelsAfter : Type 0
LevelsAfter = (f : List ℕ → Bool) (sizes one other vs : List ℕ)
    → ((w : ℕ) → stands one w ≡ stands other w)
    → sum_of_levels f sizes one vs ≡ sum_of_levels f sizes other vs

-- the size along an order with an item put into it is what that costs
abbrev pub SizeWithItem : Type 0
SizeWithItem = (f : List ℕ → Bool) (sizes rest : List ℕ) (x j : ℕ) → IsPermutation (insert rest j x)
    → length (insert rest j x) ≡ length sizes → IsTrue (are_sizes sizes)
    → size_along f sizes (insert rest j x) ≡ cost_at f sizes rest x j

-- from one order, item and number sifting comes to one order
abbrev pub OneLast : Type 0
OneLast = (m : Machine) (one other order : List ℕ) (item left : ℕ) → Sifts m one order item left
    → Sifts m other order item left → one ≡ other

-- a machine has one sifted order, with one first count and one count
abbrev pub OneSifted : Type 0
OneSifted = (m : Machine) (one other : List ℕ) (first second count number : ℕ)
    → IsSifted m one first count → IsSifted m other second number
    → (one ≡ other) × (first ≡ second) × (count ≡ number)
