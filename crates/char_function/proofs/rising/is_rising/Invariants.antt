use Rattle.char_function.proofs.Rises.{RisesTo}
use Rattle.char_function.proofs.rising.is_rising.Given as goal

abbrev pub invariant-loop-place : goal.invariant-loop-place
invariant-loop-place l = RisesTo l.vars l.order l.place l.next
