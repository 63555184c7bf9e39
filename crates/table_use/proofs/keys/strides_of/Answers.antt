use Rattle.std.proofs.Common.{◌+◌, arith}
use Rattle.table_use.proofs.keys.strides_of.Goals as goal
use Rattle.domains.proofs.FittingCodes.{product_after}

pub lists_from-requires-clause-few : goal.lists_from-requires-clause-few
lists_from-requires-clause-few c =
    let most = product_after c.args.vars.now (c.loop-v.v + 1) c.len-v-end.ensures.sizes in
    let few = c.requires in
    omega arith
