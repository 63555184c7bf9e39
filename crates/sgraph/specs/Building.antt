-- The graph that a diagram becomes, as one function.
use Rattle.std.specs.Prelude.{ℕ, suc, ◌-◌, cond, ◌==◌, nat_lt, List, [], ◌∷◌, map, length, slice_index, Option, Some, None}
use Rattle.transition_table.specs.declared.machine.Machine.{Machine}
use Rattle.domains.specs.Orders.{place}
use Rattle.decision_diagram.specs.Diagrams.{Node, Diagrams, inner_at}
use Rattle.sgraph.specs.declared.vertex.Vertex.{Vertex}
use Rattle.sgraph.specs.declared.vertex.Vertex.TheVariants.{Begin, Test, Assign, End}
use Rattle.sgraph.specs.Graphs.{left_after}

-- the first code whose child isn't False
abbrev pub code_there : List ℕ → ℕ
code_there [] = 0
code_there (kid ∷ kids) = cond (kid == 0) (suc (code_there kids)) 0

-- the nodes that follow on a node: a variable's children, a result's one child that isn't False
abbrev pub next_in : ℕ → Option Node → List ℕ
next_in n None = []
next_in n (Some node) =
    cond (nat_lt node.var n) node.kids (slice_index node.kids (code_there node.kids) ∷ [])

abbrev pub next_nodes : Diagrams → ℕ → ℕ → List ℕ
next_nodes s n k = next_in n (inner_at s.nodes k)

-- the nodes that are reached, in the reverse of the order in which a depth-first walk leaves them
abbrev pub nodes_left : Diagrams → ℕ → ℕ → List ℕ
nodes_left s n root = left_after (suc root) (next_nodes s n) [] root

-- the vertex of a node: the begin stands before them all
abbrev pub number_in : List ℕ → ℕ → ℕ
number_in left k = suc (place left k)

abbrev pub vertex_in : ℕ → (ℕ → ℕ) → Option Node → Vertex
vertex_in n number None = End
vertex_in n number (Some node) =
    cond (nat_lt node.var n) (Test node.var (map number node.kids))
    (Assign (node.var - n) (code_there node.kids)
    (number (slice_index node.kids (code_there node.kids))))

abbrev pub graph_of : Machine → Diagrams → ℕ → List Vertex
graph_of m s root =
    let left = nodes_left s (length m.vars) root in
    Begin 1 ∷ map (λ k. vertex_in (length m.vars) (number_in left) (inner_at s.nodes k)) left
