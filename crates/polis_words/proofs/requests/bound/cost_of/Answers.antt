use Rattle.std.proofs.Common.{arith}
use Rattle.polis_words.proofs.AsksBound.{no_cost}
use Rattle.polis_words.proofs.requests.bound.cost_of.Goals as goal

pub returns-in-Some-clause-none : goal.returns-in-Some-clause-none
returns-in-Some-clause-none c =
    let fits = rw c.in-Some.is at c.read_decimal.type_inv in
    no_cost c.within.result c.args.word.now c.in-Some.n
    (rw c.as_bytes.ensures.value at c.in-Some.ensures.some) (omega (arith, fits))
    c.within.ensures.none
