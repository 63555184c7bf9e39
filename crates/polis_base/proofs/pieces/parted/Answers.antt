use Rattle.std.proofs.Common.{◌∙◌, ap, arith, length, subst}
use Rattle.std.proofs.lemmas.Bool.{eqb-true}
use Rattle.memchr.specs.Find.{IsFirstByte, is_byte}
use Rattle.polis_base.proofs.FirstMark.{none_before, prefix_lacks, whole_lacks, cut_slice}
use Rattle.polis_base.proofs.TextPieces.{pieces_at, pieces_end}
use Rattle.polis_base.specs.Pieces.{pieces}
use Rattle.polis_base.proofs.pieces.parted.Goals as goal

pub returns-in-Some-clause-piece : goal.returns-in-Some-clause-piece
returns-in-Some-clause-piece c =
    let found =
    subst (IsFirstByte (is_byte c.args.mark) c.args.text.now) c.in-Some.is c.requires in
    let none = none_before c.args.mark c.args.text.now c.in-Some.k found.0.before in
    prefix_lacks c.args.mark c.args.text.now c.in-Some.k none (omega (arith, found.0.high))

pub returns-in-Some-clause-prefix : goal.returns-in-Some-clause-prefix
returns-in-Some-clause-prefix c =
    let found =
    subst (IsFirstByte (is_byte c.args.mark) c.args.text.now) c.in-Some.is c.requires in
    let below = found.0.high in
    let none = none_before c.args.mark c.args.text.now c.in-Some.k found.0.before in
    let free = prefix_lacks c.args.mark c.args.text.now c.in-Some.k none (omega (arith, below)) in
    ap (pieces c.args.mark)
    (cut_slice c.args.mark c.args.text.now c.in-Some.k below (eqb-true _ _ found.1))
    ∙ pieces_at c.args.mark _ _ free

pub returns-in-None-clause-piece : goal.returns-in-None-clause-piece
returns-in-None-clause-piece c =
    let none = none_before c.args.mark c.args.text.now (length c.args.text.now)
    (subst (IsFirstByte (is_byte c.args.mark) c.args.text.now) c.in-None.is c.requires) in
    whole_lacks c.args.mark c.args.text.now (length c.args.text.now) (omega arith) none

pub returns-in-None-clause-prefix : goal.returns-in-None-clause-prefix
returns-in-None-clause-prefix c =
    let none = none_before c.args.mark c.args.text.now (length c.args.text.now)
    (subst (IsFirstByte (is_byte c.args.mark) c.args.text.now) c.in-None.is c.requires) in
    pieces_end c.args.mark c.args.text.now
    (whole_lacks c.args.mark c.args.text.now (length c.args.text.now) (omega arith) none)
