use Rattle.std.proofs.Common.{arith, sym, subst}
use Rattle.commands.specs.Run.{IsRan}
use Rattle.commands.proofs.run.product_alone.Goals as goal

pub stamped_text-requires-clause-few : goal.stamped_text-requires-clause-few
stamped_text-requires-clause-few c =
    let within = c.in_ok-ran.ensures.is.within in
    let few = c.limit.ensures.few in
    omega (arith, within, few)

pub other_texts-requires-clause-few : goal.other_texts-requires-clause-few
other_texts-requires-clause-few c =
    let within = c.in_ok-ran.ensures.is.within in
    let few = c.limit.ensures.few in
    omega (arith, within, few)

pub product_of-requires-clause-ran : goal.product_of-requires-clause-ran
product_of-requires-clause-ran c =
    subst (λ n. IsRan n c.args.asked.now.limit c.args.inputs.now.net c.args.inputs.now.trace
    c.in_ok-ran.ran) (sym c.requires.one)
    (rw (c.requires.tasks.meaning, c.limit.ensures.is) at c.in_ok-ran.ensures)
