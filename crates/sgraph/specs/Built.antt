-- A machine's diagram, and the graph that it becomes.
use Rattle.std.specs.Prelude.{◌≡◌, ◌≢◌, ◌⊎◌, ℕ, ◌+◌, ◌<◌, List, map, length, slice_get, slice_index, Some}
use Rattle.transition_table.specs.declared.machine.Machine.{Machine}
use Rattle.decision_diagram.specs.Diagrams.{Node, Diagrams, inner_at, IsNode, value_of, AreReduced}
use Rattle.decision_diagram.specs.Exact.{IsTrueWhere}
use Rattle.decision_diagram.specs.Reached.{Reaches}
use Rattle.sgraph.specs.declared.vertex.Vertex.{Vertex}
use Rattle.sgraph.specs.declared.vertex.Vertex.TheVariants.{Begin, Test, Assign, End}
use Rattle.transition_table.specs.Transitions.{IsDeterministic}
use Rattle.transition_table.specs.Orders.{Char, sizes_of, Allowed}

-- of codes that fit, the node is true exactly of a snapshot and the codes of its outcome
abbrev pub IsExact : Machine → Diagrams → ℕ → Type 0
IsExact m s n = IsTrueWhere (sizes_of m) (value_of s n) (Char m)

-- the root of a reduced diagram that is exact for a deterministic machine, in an allowed order
pub record IsDiagram (m : Machine) (s : Diagrams) (root : ℕ) : Type 0 where
  pub sure : IsDeterministic m
  pub reduced : AreReduced s
  pub sizes : s.sizes ≡ sizes_of m
  pub allowed : Allowed m s.order
  pub node : IsNode s root
  pub exact : IsExact m s root

-- Each node that is reached and isn't False has a vertex of its own: a variable's node a test, a
-- result's node the assignment of the code whose child isn't False, True the end. There are no
-- others but the begin, and vertices come before their children's.
pub record Built (m : Machine) (s : Diagrams) (root : ℕ) (g : List Vertex) (number : ℕ → ℕ) :
    Type 0 where
  pub begin : slice_get g 0 ≡ Some (Begin (number root))
  pub end : slice_get g (number 1) ≡ Some End
  pub test :
      (n : ℕ) (node : Node)
      → Reaches s root n
      → inner_at s.nodes n ≡ Some node
      → node.var < length m.vars
      → slice_get g (number n) ≡ Some (Test node.var (map number node.kids))
  pub assign :
      (n : ℕ) (node : Node) (y c : ℕ)
      → Reaches s root n
      → inner_at s.nodes n ≡ Some node
      → node.var ≡ length m.vars + y
      → c < length node.kids
      → slice_index node.kids c ≢ 0
      → slice_get g (number n) ≡ Some (Assign y c (number (slice_index node.kids c)))
  pub first : 0 < number root
  pub onward :
      (n : ℕ) (node : Node) (c : ℕ)
      → Reaches s root n
      → inner_at s.nodes n ≡ Some node
      → c < length node.kids
      → slice_index node.kids c ≢ 0
      → number n < number (slice_index node.kids c)
  pub only :
      (k : ℕ) (v : Vertex)
      → slice_get g k ≡ Some v
      → (k ≡ 0) ⊎ ((n : ℕ) × Reaches s root n × (n ≢ 0) × (k ≡ number n))
  pub apart :
      (a b : ℕ)
      → Reaches s root a
      → Reaches s root b
      → a ≢ 0
      → b ≢ 0
      → number a ≡ number b
      → a ≡ b
