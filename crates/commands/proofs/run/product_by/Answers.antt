use Rattle.std.proofs.Common.{arith}
use Rattle.commands.proofs.run.product_by.Goals as goal

pub run_by-requires-clause-several : goal.run_by-requires-clause-several
run_by-requires-clause-several g c =
    let is = c.workers-workers.ensures.is in
    let several = c.requires.several in
    omega (arith, is, several)

pub product_of-requires-clause-ran : goal.product_of-requires-clause-ran
product_of-requires-clause-ran g c =
    rw (c.requires.tasks.meaning, c.workers-workers.ensures.is, c.limit-limit.ensures.is) at
    c.in_ok-ran.ensures

pub texts_by-journal-requires-clause-few : goal.texts_by-journal-requires-clause-few
texts_by-journal-requires-clause-few g c =
    let within = c.in_ok-ran.ensures.is.within in
    let few = c.limit-limit.ensures.few in
    omega (arith, within, few)

pub other_texts-requires-clause-few : goal.other_texts-requires-clause-few
other_texts-requires-clause-few g c =
    let within = c.in_ok-ran.ensures.is.within in
    let few = c.limit-limit.ensures.few in
    omega (arith, within, few)
