use Rattle.decision_diagram.proofs.ReachedMarks.{AreMarked}
use Rattle.decision_diagram.proofs.store.Store.count.Given as goal

-- the nodes from number i + 2 on have marked their children
abbrev pub invariant-loop-i : goal.invariant-loop-i
invariant-loop-i l = AreMarked l.self l.fn.n l.marks.items l.i

abbrev pub decreases-loop-i : goal.decreases-loop-i
decreases-loop-i l = l.i
