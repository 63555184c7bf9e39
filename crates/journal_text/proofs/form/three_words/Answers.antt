use Rattle.std.proofs.Common.{None, refl}
use Rattle.journal_text.specs.inner.Cursors.{three_of}
use Rattle.journal_text.proofs.ThreePieces.{four_pieces}
use Rattle.journal_text.proofs.form.three_words.Goals as goal

pub returns-in-Some-after-2-clause-none : goal.returns-in-Some-after-2-clause-none
returns-in-Some-after-2-clause-none c =
    four_pieces three_of None (λ a b d e ws. refl) c.args.text.now c.in-Some.rest.now
    c.in-Some-after.rest.now c.in-Some-after-2.field-0.now _ _ _
    (rw c.in-Some.is at c.next_piece.ensures.prefix)
    (rw c.in-Some-after.is at c.next_piece-2.ensures.prefix)
    (rw c.in-Some-after-2.is at c.next_piece-3.ensures.prefix)
