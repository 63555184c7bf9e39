use Rattle.std.proofs.Common.{◌≡◌, ◌++◌, drop}
use Rattle.polis_base.specs.Lists.{numbered}
use Rattle.graph_drawing.specs.Drawings.{vertex_line}
use Rattle.graph_drawing.proofs.graph_text.push_vertices.Given as goal

-- what is written, with what is left, is the whole
abbrev pub invariant-loop-k : goal.invariant-loop-k
invariant-loop-k l = l.into ++ numbered (vertex_line l.net l.machine) l.k (drop l.k l.graph)
    ≡ l.fn.into ++ numbered (vertex_line l.net l.machine) 0 l.graph
