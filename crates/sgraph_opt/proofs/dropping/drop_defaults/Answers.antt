use Rattle.std.proofs.Common.{subst, sym}
use Rattle.sgraph_opt.specs.Smaller.{NoDefaults}
use Rattle.sgraph_opt.proofs.DroppedDefaults.{dropping_stands}
use Rattle.sgraph_opt.proofs.Reduced.{are_without}
use Rattle.sgraph_opt.proofs.dropping.drop_defaults.Goals as goal

pub renumbered-requires : goal.renumbered-requires
renumbered-requires c = dropping_stands c.args.g.now c.in_ok-reps.reps c.in_ok-reps.ensures

pub returns-clause-defaults : goal.returns-clause-defaults
returns-clause-defaults c =
    subst NoDefaults (sym c.in_ok-h.ensures.list)
    (are_without c.args.g.now c.in_ok-reps.reps c.len.ensures.graph
    (dropping_stands c.args.g.now c.in_ok-reps.reps c.in_ok-reps.ensures) c.in_ok-reps.ensures)
