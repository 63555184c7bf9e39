use Rattle.graph_drawing.proofs.IsNext.{IsLeast}
use Rattle.graph_drawing.proofs.graph_text.next_child.Given as goal

-- the least of the children so far that aren't below the number
abbrev pub invariant-loop-code : goal.invariant-loop-code
invariant-loop-code l = IsLeast l.kids l.from l.count l.least l.code
