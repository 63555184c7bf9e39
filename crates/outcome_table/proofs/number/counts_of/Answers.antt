use Rattle.std.proofs.Common.{◌<◌, ◌^◌, drop, arith, subst, sym}
use Rattle.domains.specs.Tables.{product}
use Rattle.outcome_table.proofs.number.counts_of.Goals as goal
use Rattle.domains.proofs.FittingCodes.{product_after}

pub lists_from-requires-clause-few : goal.lists_from-requires-clause-few
lists_from-requires-clause-few c =
    let some = product_after c.args.m.now.vars c.loop-v.v c.var_count-v-end.ensures.sizes in
    let few = c.var_count-v-end.ensures.snapshots in
    let e = c.from.ensures in
    subst (λ k. product (drop k c.args.m.now.vars) < 2 ^ 63) (sym e) (omega arith)
