use Rattle.std.proofs.Common.{◌≡◌, ◌++◌, drop, length}
use Rattle.polis_base.specs.Lists.{numbered}
use Rattle.graph_drawing.specs.Drawings.{vertex_edges}
use Rattle.graph_drawing.proofs.graph_text.push_edges.Given as goal

-- what is written, with what is left, is the whole
abbrev pub invariant-loop-k : goal.invariant-loop-k
invariant-loop-k l =
    l.into ++ numbered (vertex_edges l.net l.machine (length l.graph)) l.k (drop l.k l.graph)
    ≡ l.fn.into ++ numbered (vertex_edges l.net l.machine (length l.graph)) 0 l.graph
