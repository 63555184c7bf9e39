use Rattle.std.proofs.Common.{arith}
use Rattle.commands.proofs.shuffle.product_drawn.Goals as goal

pub product_of-requires-clause-few : goal.product_of-requires-clause-few
product_of-requires-clause-few c =
    let within = c.in_ok-finished.ensures.is.within in
    let few = c.limit-few.ensures.few in
    let is = c.limit-few.ensures.is in
    omega (arith, within, few, is)
