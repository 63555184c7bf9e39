use Rattle.std.proofs.Common.{◌++◌}
use Rattle.polis_base.specs.Lists.{numbered}
use Rattle.graph_drawing.specs.Drawings.{vertex_line}
use Rattle.polis_base.proofs.Numbered.{more_numbered}
use Rattle.graph_drawing.proofs.graph_text.push_vertices.Goals as goal

pub loop-k-preserved : goal.loop-k-preserved
loop-k-preserved c =
    more_numbered (vertex_line c.args.net.now c.args.machine.now) c.args.graph.now c.loop-k.k
    c.get.result.now c.loop-k.into c.push_vertex.new.into
    (c.args.into.now
    ++ numbered (vertex_line c.args.net.now c.args.machine.now) 0 c.args.graph.now)
    c.loop-k.invariant c.get.ensures c.in_ok-push_vertex.ensures
