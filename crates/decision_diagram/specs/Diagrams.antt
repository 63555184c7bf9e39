-- Decision diagrams over variables of several values.
use Rattle.std.specs.Prelude.{◌≡◌, ℕ, ◌+◌, ◌-◌, ◌<◌, ◌==◌, Bool, cond, nat_lt, List, ◌∷◌, length, Option, Some, None, slice_get, slice_index, IsTrue, []}
use Rattle.domains.specs.Tables.{fits, are_sizes}
use Rattle.domains.specs.Orders.{IsPermutation, place}
use Rattle.decision_diagram.specs.declared.node.Shape.{Shape}
use Rattle.decision_diagram.specs.declared.node.Shape.TheVariants.{False, True, Inner}

-- an inner node: its variable, and its children, one for each code
pub record Node : Type 0 where
  pub var : ℕ
  pub kids : List ℕ

-- The sizes of the variables, the order in which they are read, and the inner nodes, children
-- first. Node 0 is false, node 1 is true, and the inner nodes have the numbers from 2 on.
pub record Diagrams : Type 0 where
  pub sizes : List ℕ
  pub order : List ℕ
  pub nodes : List Node

-- the inner node with this number, where there is one
abbrev pub inner_at : List Node → ℕ → Option Node
inner_at nodes n = cond (nat_lt n 2) None (slice_get nodes (n - 2))

-- where one comes to from node n by the code of a variable: to its child, where that is its
-- variable
abbrev pub step : Option Node → ℕ → ℕ → ℕ → ℕ
step None var code n = n
step (Some node) var code n = cond (node.var == var) (slice_index node.kids code) n

-- where one comes to from node n by the codes of the variables, read in turn
abbrev pub follow : List Node → List ℕ → List ℕ → ℕ → ℕ
follow nodes [] codes n = n
follow nodes (var ∷ vars) codes n =
    follow nodes vars codes (step (inner_at nodes n) var (slice_index codes var) n)

-- it is a node of the store
abbrev pub IsNode : Diagrams → ℕ → Type 0
IsNode s n = n < length s.nodes + 2

-- The value of a node: read the variables in order, and come to the node that is true.
abbrev pub value_of : Diagrams → ℕ → List ℕ → Bool
value_of s n codes = follow s.nodes s.order codes n == 1

abbrev pub shape_in : ℕ → Option Node → Shape
shape_in n None = cond (n == 0) False True
shape_in n (Some node) = Inner node.var

-- what kind of node it is
abbrev pub shape_of : Diagrams → ℕ → Shape
shape_of s n = shape_in n (inner_at s.nodes n)

abbrev pub kids_in : Option Node → List ℕ
kids_in None = []
kids_in (Some node) = node.kids

-- the children of a node, one for each code of its variable
abbrev pub kids_of : Diagrams → ℕ → List ℕ
kids_of s n = kids_in (inner_at s.nodes n)

abbrev pub level_in : List ℕ → Option Node → ℕ
level_in order None = length order
level_in order (Some node) = place order node.var

-- the place in the order of a node's variable, or the order's length where it has none
abbrev pub level_of : Diagrams → ℕ → ℕ
level_of s n = level_in s.order (inner_at s.nodes n)

-- Of an inner node: it has one child for each code of its variable; the children were made before
-- it, read only later variables, and aren't all the same.
pub record IsReducedNode (s : Diagrams) (n : ℕ) (node : Node) : Type 0 where
  pub var : node.var < length s.sizes
  pub kids : length node.kids ≡ slice_index s.sizes node.var
  pub before : (code : ℕ) → code < length node.kids → slice_index node.kids code < n
  pub later : (code : ℕ) → code < length node.kids
      → place s.order node.var < level_of s (slice_index node.kids code)
  pub varied : (kid : ℕ) → ((code : ℕ) → code < length node.kids → slice_index node.kids code ≡ kid)
      → ⊥

-- A reduced ordered diagram (Bryant 1986): so is each inner node, and no two have the same variable
-- and children.
pub record AreReduced (s : Diagrams) : Type 0 where
  pub sizes : IsTrue (are_sizes s.sizes)
  pub order : IsPermutation s.order
  pub lengths : length s.order ≡ length s.sizes
  pub nodes : (n : ℕ) (node : Node) → inner_at s.nodes n ≡ Some node → IsReducedNode s n node
  pub unique : (m n : ℕ) (a b : Node) → inner_at s.nodes m ≡ Some a → inner_at s.nodes n ≡ Some b
      → a.var ≡ b.var → a.kids ≡ b.kids → m ≡ n

-- The table and the order are as before, and each earlier node is still of the store, with the
-- value, the shape, the children and the place in the order that it had.
pub record Keeps (old new : Diagrams) : Type 0 where
  pub sizes : new.sizes ≡ old.sizes
  pub order : new.order ≡ old.order
  pub nodes : (n : ℕ) → IsNode old n → IsNode new n
  pub values : (n : ℕ) (codes : List ℕ) → IsNode old n → value_of new n codes ≡ value_of old n codes
  pub shapes : (n : ℕ) → IsNode old n → shape_of new n ≡ shape_of old n
  pub children : (n : ℕ) → IsNode old n → kids_of new n ≡ kids_of old n
  pub levels : (n : ℕ) → IsNode old n → level_of new n ≡ level_of old n

-- n is a node of the store, and its value is f on all codes that fit the table
pub record Means (s : Diagrams) (n : ℕ) (f : List ℕ → Bool) : Type 0 where
  pub node : IsNode s n
  pub value : (codes : List ℕ) → IsTrue (fits s.sizes codes) → value_of s n codes ≡ f codes

-- the value of the child at the code of the variable
abbrev pub choice : Diagrams → ℕ → List ℕ → List ℕ → Bool
choice s var kids codes = value_of s (slice_index kids (slice_index codes var)) codes

-- two nodes with the same value on all codes that fit the table are the same node
abbrev pub IsCanonical : Diagrams → Type 0
IsCanonical s = (a b : ℕ) → IsNode s a → IsNode s b
    → ((codes : List ℕ) → IsTrue (fits s.sizes codes) → value_of s a codes ≡ value_of s b codes)
    → a ≡ b
