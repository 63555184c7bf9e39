use Rattle.std.proofs.Common.{arith}
use Rattle.polis_words.proofs.AskOptions.{no_number_above}
use Rattle.polis_words.proofs.requests.number.read_at_most.Goals as goal

pub returns-in-Some-clause-none : goal.returns-in-Some-clause-none
returns-in-Some-clause-none c =
    let fits = rw c.in-Some.is at c.read_decimal.type_inv in
    no_number_above c.at_most.result c.args.word.now c.in-Some.n c.args.most
    (rw c.as_bytes.ensures.value at c.in-Some.ensures.some) (omega (arith, fits))
    (omega arith) c.at_most.ensures.none
