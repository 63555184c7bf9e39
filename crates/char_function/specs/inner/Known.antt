-- Nodes of what an order has after the machine's variables, for outcomes by their numbers.
use Rattle.std.specs.Prelude.{◌≡◌, ℕ, ◌-◌, ◌<◌, ◌≤◌, ◌==◌, Bool, List, [], drop, get_or, length, slice_index, Option, None, Some}
use Rattle.std.specs.List.{list_all}
use Rattle.transition_table.specs.declared.machine.Machine.{Machine}
use Rattle.transition_table.specs.Orders.{sizes_of}
use Rattle.decision_diagram.specs.Diagrams.{Diagrams, Means, level_of}
use Rattle.outcome_table.specs.Outcomes.{IsTableOf}
use Rattle.outcome_table.specs.declared.table.Table.{Table}

-- from a place on the order has results alone, which are numbered after so many variables
abbrev pub OnlyResults : ℕ → List ℕ → ℕ → Type 0
OnlyResults vars order start = (j : ℕ) → start ≤ j → j < length order → vars ≤ slice_index order j

-- the list has the codes of the outcome of this number for these results
abbrev pub has_outcome : ℕ → List (List ℕ) → ℕ → List ℕ → List ℕ → Bool
has_outcome vars outcomes k items codes =
    list_all (λ v. slice_index (get_or outcomes k []) (v - vars) == slice_index codes v) items

-- A node that is known for an outcome is true exactly where the list has the outcome's codes for
-- what the order has from the place on.
pub record AreKnown (s : Diagrams) (vars start : ℕ) (outcomes : List (List ℕ))
    (known : List (Option ℕ)) : Type 0 where
  pub long : length known ≡ length outcomes
  pub means : (k n : ℕ) → get_or known k None ≡ Some n
      → Means s n (has_outcome vars outcomes k (drop start s.order))
  pub levels : (k n : ℕ) → get_or known k None ≡ Some n → start ≤ level_of s n

-- what diagrams of groups of a machine's snapshots are made of, over the store's items and sizes
pub record IsMaking (m : Machine) (t : Table) (items wide : List ℕ) (after : ℕ) (s : Diagrams) :
    Type 0 where
  pub order : items ≡ s.order
  pub sizes : wide ≡ s.sizes
  pub all_sizes : s.sizes ≡ sizes_of m
  pub table : IsTableOf m t
  pub start : OnlyResults (length m.vars) s.order after
