-- Orders of variables and results, by the supports of the results.
use Rattle.std.specs.Prelude.{◌≡◌, ℕ, ◌+◌, ◌==◌, List, ◌∷◌, ◌++◌, map, length, filter, flat_map, get_or, max, []}
use Rattle.polis_base.specs.Lists.{upto}
use Rattle.transition_table.specs.declared.machine.Machine.{Machine}
use Rattle.transition_table.specs.Computed.{all_supports}
use Rattle.transition_table.specs.Orders.{sizes_of}

-- the greatest, or 0
abbrev pub greatest : List ℕ → ℕ
greatest [] = 0
greatest (n ∷ ns) = max n (greatest ns)

-- how many of the variables have to stand until this whole support does
abbrev pub reach : List ℕ → ℕ
reach support = greatest (map (λ v. v + 1) support)

-- how many have to stand until a result may
abbrev pub reach_at : List (List ℕ) → ℕ → ℕ
reach_at supports y = reach (get_or supports y [])

-- the results whose whole support first stands after k of n variables
abbrev pub results_after : ℕ → List (List ℕ) → ℕ → List ℕ
results_after n supports k =
    map (λ y. n + y) (filter (λ y. reach_at supports y == k) (upto (length supports)))

-- the results with empty support, and then each variable with the results whose whole support then
-- stands
abbrev pub interleaved : ℕ → List (List ℕ) → List ℕ
interleaved n supports = results_after n supports 0
    ++ flat_map (λ v. v ∷ results_after n supports (v + 1)) (upto n)

abbrev pub first_order : Machine → List ℕ
first_order m = interleaved (length m.vars) (all_supports m)

-- the supports are those of a machine, and the order is of its variables and results
abbrev pub AreOfMachine : List (List ℕ) → List ℕ → Type 0
AreOfMachine supports order = (m : Machine) × (supports ≡ all_supports m)
    × (length order ≡ length (sizes_of m))
