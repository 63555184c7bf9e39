use Rattle.order_sift.proofs.law.laws_of_levels.Goals as goal
use Rattle.domains.proofs.FittingCodes.{sizes_both}

pub returns-clause-sizes : goal.returns-clause-sizes
returns-clause-sizes c =
    sizes_both c.args.m.now.vars c.args.m.now.results c.len.ensures.sizes c.len-2.ensures.sizes
