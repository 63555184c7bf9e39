-- Nodes that a walk has left.
use Rattle.std.specs.Prelude.{◌≡◌, ℕ, ◌-◌, ◌<◌, ◌≤◌, Bool, List, [], ◌∷◌, ◌++◌, length, take, drop, slice_get, Some}
use Rattle.transition_table.specs.NetworkFacts.{has}
use Rattle.decision_diagram.specs.Diagrams.{Diagrams, kids_of}
use Rattle.sgraph.specs.Building.{next_nodes}

-- the last item first
abbrev pub turned : List ℕ → List ℕ
turned [] = []
turned (x ∷ xs) = turned xs ++ x ∷ []

-- a mark for each of so many nodes or vertices says whether it was left
pub record Marks (count : ℕ) (marks : List Bool) (left : List ℕ) : Type 0 where
  pub long : length marks ≡ count
  pub each : (k : ℕ) → k < length marks → slice_get marks k ≡ Some (has (turned left) k)

-- the nodes that follow on node k are its children at the codes from one on and before another
pub record AreNext (s : Diagrams) (n k from end : ℕ) : Type 0 where
  pub up : from ≤ end
  pub within : end ≤ length (kids_of s k)
  pub next : next_nodes s n k ≡ take (end - from) (drop from (kids_of s k))
