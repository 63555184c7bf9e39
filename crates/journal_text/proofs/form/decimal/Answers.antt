use Rattle.std.proofs.Common.{arith}
use Rattle.journal_text.proofs.ThreePieces.{decimal_some, decimal_none}
use Rattle.journal_text.proofs.form.decimal.Goals as goal

pub returns-in-Some : goal.returns-in-Some
returns-in-Some c =
    let fits = rw c.in-Some.is at c.read_decimal.type_inv in
    decimal_some c.args.text.now c.in-Some.number (omega arith) c.in-Some.ensures.some

pub returns-in-None : goal.returns-in-None
returns-in-None c = decimal_none c.args.text.now c.in-None.ensures.none
