use Rattle.std.proofs.Common.{sym, ◌∙◌, arith}
use Rattle.trace_text.specs.Pieces.{ends_word}
use Rattle.trace_text.proofs.Pieces.{pieces_cut, pieces_uncut}
use Rattle.trace_text.proofs.cut.next_run.Goals as goal

pub returns-then-ends_a_word-clause-run : goal.returns-then-ends_a_word-clause-run
returns-then-ends_a_word-clause-run c =
    pieces_cut ends_word c.args.line.now c.loop-k.k c.loop-k-test.true c.loop-k.invariant
    (sym c.ends_a_word.ensures ∙ c.if-ends_a_word.true)

pub returns-clause-run : goal.returns-clause-run
returns-clause-run c =
    pieces_uncut ends_word c.args.line.now c.loop-k.k c.requires (omega arith) c.loop-k.invariant
