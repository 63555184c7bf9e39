use Rattle.std.proofs.Common.{◌≡◌, ℕ, List, sym, subst}
use Rattle.transition_table.specs.declared.machine.Machine.{Machine}
use Rattle.transition_table.specs.Orders.{sizes_of, Allowed}
use Rattle.transition_table.specs.Transitions.{IsDeterministic}
use Rattle.decision_diagram.specs.Diagrams.{Diagrams, AreReduced, IsNode}
use Rattle.sgraph.specs.declared.vertex.Vertex.{Vertex}
use Rattle.sgraph.specs.Building.{graph_of}
use Rattle.sgraph.specs.Built.{IsDiagram, IsExact}
use Rattle.sgraph.specs.Laws.{IsRightGraph, GraphIsRight}
use Rattle.sgraph.proofs.building.build.Goals as goal

-- a list that is the graph of the diagram is right
right_list : (m : Machine) (s : Diagrams) (root : ℕ) (order : List ℕ) (vertices : List Vertex)
    → GraphIsRight → AreReduced s → IsDeterministic m → s.sizes ≡ sizes_of m → s.order ≡ order
    → Allowed m order → IsNode s root → IsExact m s root → vertices ≡ graph_of m s root
    → IsRightGraph m order vertices
right_list m s root order vertices law ok sure sizes is allowed node exact e =
    let d : IsDiagram m s root =
    record {
      sure = sure;
      reduced = ok;
      sizes = sizes;
      allowed = subst (Allowed m) (sym is) allowed;
      node = node;
      exact = exact;
    } in
    subst (IsRightGraph m order) (sym e)
    (subst (λ (o : List ℕ). IsRightGraph m o (graph_of m s root)) is (law m s root d))

pub of-requires : goal.of-requires
of-requires c =
    (right_list c.args.m.now c.args.root.now.store c.args.root.now.node c.args.order.now
    c.in_ok-vertices.vertices c.laws.ensures.graph_is_right c.same_value_same_node.ensures.reduced
    c.requires.sure c.requires.sizes c.requires.order c.requires.allowed c.requires.node
    c.requires.exact c.in_ok-vertices.ensures).graph

pub returns : goal.returns
returns c =
    let right = right_list c.args.m.now c.args.root.now.store c.args.root.now.node c.args.order.now
    c.in_ok-vertices.vertices c.laws.ensures.graph_is_right
    c.same_value_same_node.ensures.reduced c.requires.sure c.requires.sizes c.requires.order
    c.requires.allowed c.requires.node c.requires.exact c.in_ok-vertices.ensures in
    rw c.of.ensures right.of_machine
