-- The nodes that are reached from a node.
use Rattle.std.specs.Prelude.{◌≡◌, ◌↔◌, ℕ, zero, suc, ◌-◌, ◌≤◌, Bool, true, false, List, length, slice_index_or, count_by}
use Rattle.std.specs.List.{Contains}
use Rattle.decision_diagram.specs.Diagrams.{Diagrams, IsNode, kids_of}

-- node m is reached from n in so many steps, each from a node to one of its children
abbrev pub Walk : Diagrams → ℕ → ℕ → ℕ → Type 0
Walk s n m zero = n ≡ m
Walk s n m (suc steps) = (k : ℕ) × Walk s n k steps × Contains (kids_of s k) m

abbrev pub Reaches : Diagrams → ℕ → ℕ → Type 0
Reaches s n m = (steps : ℕ) × Walk s n m steps

-- what a list with one place for each inner node has for one
abbrev pub marked : List Bool → ℕ → Bool
marked marks m = slice_index_or marks (m - 2) false

-- The number of inner nodes reached from n: how often a list that says of each inner node whether
-- it is reached says that it is.
pub record CountsReached (s : Diagrams) (n count : ℕ) : Type 0 where
  pub marks : List Bool
  pub long : length marks ≡ length s.nodes
  pub each : (m : ℕ) → 2 ≤ m → IsNode s m → (marked marks m ≡ true) ↔ Reaches s n m
  pub number : count ≡ count_by (λ b. b) marks
