use Rattle.std.proofs.Common.{◌+◌, arith}
use Rattle.char_function.proofs.fixing.strides_of.Goals as goal
use Rattle.domains.proofs.FittingCodes.{product_after}

pub lists_from-requires-clause-few : goal.lists_from-requires-clause-few
lists_from-requires-clause-few c =
    let d = product_after c.args.m.now.vars (c.loop-v.v + 1) c.var_count.ensures.sizes in
    let few = c.var_count.ensures.snapshots in
    omega arith
