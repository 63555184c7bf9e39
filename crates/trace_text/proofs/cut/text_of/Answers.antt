use Rattle.trace_text.proofs.Pieces.{comment_cut}
use Rattle.trace_text.proofs.cut.text_of.Goals as goal

pub returns : goal.returns
returns c =
    comment_cut c.args.line.now c.next_piece.result.0.now c.next_piece.result.1
    c.next_piece.ensures.some c.next_piece.ensures.none c.next_piece.ensures.piece
