use Rattle.std.proofs.Common.{◌++◌, ℕ, ap, ◌∙◌, length}
use Rattle.polis_base.specs.Lists.{numbered}
use Rattle.graph_drawing.specs.Drawings.{vertex_edges}
use Rattle.polis_base.proofs.Numbered.{more_numbered}
use Rattle.graph_drawing.proofs.graph_text.push_edges.Goals as goal

pub loop-k-preserved : goal.loop-k-preserved
loop-k-preserved c =
    more_numbered (vertex_edges c.args.net.now c.args.machine.now (length c.args.graph.now))
    c.args.graph.now c.loop-k.k c.get.result.now c.loop-k.into c.push_vertex_edges.new.into
    (c.args.into.now ++ numbered (vertex_edges c.args.net.now c.args.machine.now
    (length c.args.graph.now)) 0 c.args.graph.now) c.loop-k.invariant c.get.ensures
    (c.in_ok-push_vertex_edges.ensures
    ∙ ap (λ (n : ℕ). c.loop-k.into ++ vertex_edges c.args.net.now c.args.machine.now n c.loop-k.k
    c.get.result.now) c.len-count.ensures.len)
