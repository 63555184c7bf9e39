use Rattle.std.proofs.Common.{◌≡◌, length}
use Rattle.trace_text.specs.Pieces.{trace_words}
use Rattle.trace_text.proofs.cut.next_word.Given as goal

-- no word stands before the rest
abbrev pub invariant-loop-rest : goal.invariant-loop-rest
invariant-loop-rest l = trace_words l.line ≡ trace_words l.rest

abbrev pub decreases-loop-rest : goal.decreases-loop-rest
decreases-loop-rest l = length l.rest
