-- Orders of variables and results, by the supports of the results.
use Rattle.std.specs.Prelude.{ℕ, ◌+◌, Bool, List, get_or, nat_lt, []}
use Rattle.std.specs.List.{list_all}
use Rattle.domains.specs.Orders.{place}

-- result y of n + y stands after all of its support
abbrev pub stands_after : ℕ → List (List ℕ) → List ℕ → ℕ → Bool
stands_after n supports order y =
    list_all (λ v. nat_lt (place order v) (place order (n + y))) (get_or supports y [])
