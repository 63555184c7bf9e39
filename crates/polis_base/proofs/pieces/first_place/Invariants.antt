use Rattle.memchr.specs.Find.{Nowhere, Passes, is_byte}
use Rattle.polis_base.proofs.pieces.first_place.Given as goal

-- no byte before this one is the mark
abbrev pub invariant-loop-k : goal.invariant-loop-k
invariant-loop-k l = Nowhere (Passes (is_byte l.mark) l.text) 0 l.k
