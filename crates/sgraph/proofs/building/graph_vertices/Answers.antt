use Rattle.std.proofs.Common.{◌+◌, length, arith}
use Rattle.sgraph.proofs.GraphOf.{all_nodes, is_graph_of}
use Rattle.sgraph.proofs.building.graph_vertices.Goals as goal

pub numbers_of-requires : goal.numbers_of-requires
numbers_of-requires c =
    let count = c.node_count.ensures in
    let node = c.requires.node in
    all_nodes c.args.store.now (length c.args.m.now.vars) c.args.root c.node_count.result
    c.same_value_same_node.ensures.reduced c.in_ok-left.left c.in_ok-left.ensures (omega arith)

pub vertices_of-requires-clause-nodes : goal.vertices_of-requires-clause-nodes
vertices_of-requires-clause-nodes c =
    all_nodes c.args.store.now (length c.args.m.now.vars) c.args.root
    (length c.args.store.now.nodes + 2) c.same_value_same_node.ensures.reduced c.in_ok-left.left
    c.in_ok-left.ensures c.requires.node

pub returns : goal.returns
returns c = is_graph_of c.args.m.now c.args.store.now c.args.root c.in_ok-left.left
    c.in_ok-numbers.numbers c.in_ok-vertices.vertices c.same_value_same_node.ensures.reduced
    c.in_ok-left.ensures c.in_ok-numbers.ensures.each c.in_ok-vertices.ensures
