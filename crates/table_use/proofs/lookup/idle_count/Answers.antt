use Rattle.std.proofs.Common.{arith}
use Rattle.table_use.proofs.lookup.idle_count.Goals as goal
use Rattle.domains.proofs.FittingCodes.{product_after}

pub lists_from-requires-clause-few : goal.lists_from-requires-clause-few
lists_from-requires-clause-few c =
    let most = product_after c.args.machine.now.vars c.len.result c.var_count.ensures.sizes in
    let few = c.var_count.ensures.snapshots in
    omega arith
