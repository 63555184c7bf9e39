-- Orders under which the snapshots that share a prefix follow each other, and lists of nodes under
-- them.
use Rattle.std.specs.Prelude.{◌≡◌, ℕ, ◌*◌, ◌<◌, ◌≤◌, List, length, take, drop, slice_index, nat_lt}
use Rattle.domains.specs.Tables.{product}
use Rattle.decision_diagram.specs.Diagrams.{Diagrams, Means, level_of}
use Rattle.decision_diagram.specs.Sets.{stands}
use Rattle.transition_table.specs.declared.machine.Machine.{Machine}
use Rattle.char_function.specs.inner.Left.{left_from}
use Rattle.char_function.specs.inner.Points.{points}

-- before a variable stand exactly those of lower numbers
abbrev pub IsRising : ℕ → List ℕ → Type 0
IsRising vars order = (p v : ℕ) → p < length order → slice_index order p < vars → v < vars
    → stands (take p order) v ≡ nat_lt v (slice_index order p)

-- the node is what is left from a place on where the codes before it are those of a snapshot
pub record IsLeft (m : Machine) (order : List ℕ) (s : Diagrams) (place i n : ℕ) : Type 0 where
  pub low : i < length (points m)
  pub means : Means s n (left_from m order place i)
  pub level : place ≤ level_of s n

-- One node for each way to fix the variables before a place, which are those before the next one.
-- The snapshots of each way follow each other, so many of them.
pub record AreLevel (m : Machine) (order : List ℕ) (s : Diagrams) (place block : ℕ)
    (nodes : List ℕ) : Type 0 where
  pub next : ℕ
  pub few : next ≤ length m.vars
  pub so_far : (v : ℕ) → v < length m.vars → stands (take place order) v ≡ nat_lt v next
  pub apart : block ≡ product (drop next m.vars)
  pub long : length nodes ≡ product (take next m.vars)
  pub each : (j : ℕ) → j < length nodes
      → IsLeft m order s place (j * block) (slice_index nodes j)
