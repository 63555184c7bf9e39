use Rattle.std.proofs.Common.{codes, sym, ◌∙◌, arith}
use Rattle.polis_words.proofs.Asks.{two_words, one_demo}
use Rattle.polis_words.proofs.requests.demo.demo_of.Goals as goal

pub returns-in-Some-clause-asks : goal.returns-in-Some-clause-asks
returns-in-Some-clause-asks c =
    let fits = rw c.in-Some.is at c.read_decimal.type_inv in
    record {
      form = two_words c.args.words.now (codes "demo") _ (cc) c.requires
          (rw (sym c.as_bytes.ensures.value ∙ c.in-Some.ensures.some) at c.get.ensures);
      seed = omega (arith, fits);
    }

pub returns-in-Some-clause-one : goal.returns-in-Some-clause-one
returns-in-Some-clause-one c =
    let fits = rw c.in-Some.is at c.read_decimal.type_inv in
    one_demo c.args.words.now c.in-Some.seed (omega (arith, fits))
    (rw (sym c.as_bytes.ensures.value ∙ c.in-Some.ensures.some) at c.get.ensures)
