use Rattle.trace_text.specs.Pieces.{ends_word}
use Rattle.trace_text.proofs.Pieces.{NoneBefore}
use Rattle.trace_text.proofs.cut.next_run.Given as goal

-- no byte before this one passes
abbrev pub invariant-loop-k : goal.invariant-loop-k
invariant-loop-k l = NoneBefore ends_word l.line l.k
