-- The supports of all results.
use Rattle.std.specs.Prelude.{◌≡◌, ◌↔◌, ℕ, ◌<◌, Bool, true, ◌&&◌, nat_lt, List, [], ◌∷◌, length, get_or, IsTrue}
use Rattle.std.specs.List.{list_all}
use Rattle.transition_table.specs.declared.machine.Machine.{Machine}
use Rattle.decision_diagram.specs.Sets.{stands}
use Rattle.transition_table.specs.Orders.{Support}

-- each number is above those before it
abbrev pub rises : List ℕ → Bool
rises [] = true
rises (n ∷ ns) = list_all (nat_lt n) ns && rises ns

-- one rising list for each result, of exactly the variables of its support
pub record AreSupports (m : Machine) (supports : List (List ℕ)) : Type 0 where
  pub long : length supports ≡ length m.results
  pub rising : (y : ℕ) → y < length m.results → IsTrue (rises (get_or supports y []))
  pub exact : (y v : ℕ) → y < length m.results → (stands (get_or supports y []) v ≡ true)
      ↔ ((v < length m.vars) × Support m y v)
