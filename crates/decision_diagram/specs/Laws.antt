-- Laws of diagrams, for whoever reads one.
use Rattle.std.specs.Prelude.{◌≡◌, ◌≢◌, ℕ, Bool, true, List, [], length, Some, IsTrue}
use Rattle.domains.specs.Tables.{fits, are_sizes}
use Rattle.domains.specs.Orders.{IsPermutation}
use Rattle.decision_diagram.specs.Diagrams.{Diagrams, Node, inner_at, IsNode, AreReduced, Means}
use Rattle.decision_diagram.specs.Reached.{Reaches, CountsReached}
use Rattle.decision_diagram.specs.Sizes.{size_along}
use Rattle.decision_diagram.specs.Sets.{sum_of_levels}
use Rattle.decision_diagram.specs.Leading.{LeadTo, TrueSomewhere, Decided, OneCode}

-- The number of inner nodes that are reached in a reduced diagram is the number of different
-- functions that arise by fixing variables in its order and depend on the next one.
abbrev pub CountIsSize : Type 0
CountIsSize = (s : Diagrams) (root : ℕ) (f : List ℕ → Bool) (count : ℕ) → AreReduced s
    → Means s root f → CountsReached s root count → count ≡ size_along f s.sizes s.order

-- the size along an order is the sum of the levels of the sets of variables before each place
abbrev pub SizeBySets : Type 0
SizeBySets = (f : List ℕ → Bool) (sizes order : List ℕ) → IsPermutation order
    → length order ≡ length sizes → IsTrue (are_sizes sizes)
    → sum_of_levels f sizes [] order ≡ size_along f sizes order

-- a node that isn't False is true somewhere
abbrev pub SomewhereTrue : Type 0
SomewhereTrue = (s : Diagrams) (n : ℕ) → AreReduced s → IsNode s n → n ≢ 0 → TrueSomewhere s n

-- some codes lead to a node that is reached
abbrev pub ReachedLed : Type 0
ReachedLed = (s : Diagrams) (root n : ℕ) → AreReduced s → Reaches s root n
    → (codes : List ℕ) × (fits s.sizes codes ≡ true) × LeadTo s root codes n

-- where the code of its variable is decided by those before it, exactly one child of a node that is
-- led to isn't False
abbrev pub OneChild : Type 0
OneChild = (s : Diagrams) (root n : ℕ) (node : Node) (codes : List ℕ) → AreReduced s
    → inner_at s.nodes n ≡ Some node → fits s.sizes codes ≡ true → LeadTo s root codes n
    → Decided s root node.var → OneCode node.kids
