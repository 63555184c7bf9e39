use Rattle.sgraph.proofs.SentPlaces.{Sent}
use Rattle.sgraph.proofs.places.sent.Given as goal

abbrev pub invariant-loop-j : goal.invariant-loop-j
invariant-loop-j l = Sent l.table l.fn.places l.list l.j
