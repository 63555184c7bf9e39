use Rattle.std.proofs.Common.{◌++◌}
use Rattle.graph_drawing.specs.Drawings.{graphs_text}
use Rattle.graph_drawing.proofs.GraphsText.{more_graphs}
use Rattle.graph_drawing.proofs.drawing.push_graphs.Goals as goal

pub loop-m-preserved : goal.loop-m-preserved
loop-m-preserved c =
    more_graphs c.args.net.now c.args.net.now.machines c.args.graphs.now c.loop-m.m
    c.get.result.now c.get-in-loop-m.result.now c.loop-m.into c.push_graph.new.into
    (c.args.into.now ++ graphs_text c.args.net.now c.args.net.now.machines c.args.graphs.now)
    c.loop-m.invariant c.get.ensures c.get-in-loop-m.ensures c.in_ok-push_graph.ensures
