-- Decision diagrams over variables of several values.
use Rattle.std.specs.Prelude.{◌≡◌, ℕ, ◌<◌, List, length, Some, slice_index}
use Rattle.domains.specs.Orders.{place}
use Rattle.decision_diagram.specs.Diagrams.{Node, Diagrams, inner_at, IsNode, level_of}

-- the node may be made: it would be reduced, and there is none with its variable and children yet
pub record IsNew (s : Diagrams) (node : Node) : Type 0 where
  pub var : node.var < length s.sizes
  pub kids : length node.kids ≡ slice_index s.sizes node.var
  pub nodes : (code : ℕ) → code < length node.kids → IsNode s (slice_index node.kids code)
  pub later : (code : ℕ) → code < length node.kids
      → place s.order node.var < level_of s (slice_index node.kids code)
  pub varied : (kid : ℕ) → ((code : ℕ) → code < length node.kids → slice_index node.kids code ≡ kid)
      → ⊥
  pub fresh : (n : ℕ) (other : Node) → inner_at s.nodes n ≡ Some other → other.var ≡ node.var
      → other.kids ≡ node.kids → ⊥

-- n is the inner node with this variable and these children
abbrev pub HasNode : Diagrams → ℕ → ℕ → List ℕ → Type 0
HasNode s n var kids =
    (node : Node) × (inner_at s.nodes n ≡ Some node) × (node.var ≡ var) × (node.kids ≡ kids)
