use Rattle.decision_diagram.proofs.Places.{AreMarked}
use Rattle.decision_diagram.proofs.order.places_of.Given as goal

-- the numbers of the prefix are below the length, distinct, and have their places
abbrev pub invariant-loop-i : goal.invariant-loop-i
invariant-loop-i l = AreMarked l.list l.places l.i
