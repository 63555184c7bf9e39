use Rattle.std.proofs.Common.{◌≡◌, ℕ, List, ◌∷◌, ◌++◌, Option, IfSome, IfNone, Bor, ap, subst, ◌∙◌, arith, length}
use Rattle.trace_text.specs.Pieces.{trace_lines}
use Rattle.trace_text.proofs.Pieces.{line_cut, line_uncut}
use Rattle.trace_text.proofs.cut.next_line.Goals as goal

pub returns-in-Some-clause-line : goal.returns-in-Some-clause-line
returns-in-Some-clause-line c =
    let text = c.args.text.now in
    let line = c.next_piece.result.0.now in
    let cut = subst (λ (o : Option (Bor (List ℕ))). IfSome o (λ r. text ≡ line ++ 10 ∷ r.now))
    c.in-Some.is c.next_piece.ensures.some in
    ap trace_lines cut ∙ line_cut line c.in-Some.rest.now c.next_piece.ensures.piece

pub returns-in-None-clause-line : goal.returns-in-None-clause-line
returns-in-None-clause-line c =
    let text = c.args.text.now in
    let line = c.next_piece.result.0.now in
    let whole = subst (λ (o : Option (Bor (List ℕ))). IfNone o (text ≡ line)) c.in-None.is
    c.next_piece.ensures.none in
    let size = ap (λ (l : List ℕ). length l) whole in
    let some = c.requires in
    ap trace_lines whole ∙ line_uncut line (omega arith) c.next_piece.ensures.piece
