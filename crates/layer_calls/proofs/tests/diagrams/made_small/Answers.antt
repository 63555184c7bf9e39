use Rattle.sgraph_opt.proofs.IsGraphOf.{all_fit}
use Rattle.layer_calls.proofs.tests.diagrams.made_small.Goals as goal

pub returns : goal.returns
returns c =
    let fit = all_fit c.args.m.now c.args.graph.now c.requires in
    let without = c.in_ok-without.ensures.keeps.fits_machine c.args.m.now fit in
    c.in_ok-small.ensures.keeps.fits_machine c.args.m.now
    (all_fit c.args.m.now c.in_ok-without.without without)
