use Rattle.std.proofs.Common.{arith}
use Rattle.outcome_table.proofs.column.piece_from.Goals as goal
use Rattle.domains.proofs.FittingCodes.{product_after}

pub lists_from-requires-clause-few : goal.lists_from-requires-clause-few
lists_from-requires-clause-few c =
    let few = c.requires.few in
    let less = product_after c.args.vars.now c.loop-from.from c.len.ensures.sizes in
    omega arith
