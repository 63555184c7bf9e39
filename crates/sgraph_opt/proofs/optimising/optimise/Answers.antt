use Rattle.std.proofs.Common.{subst, sym, true}
use Rattle.sgraph.specs.Graphs.{Reduced}
use Rattle.sgraph_opt.specs.Smaller.{NoDefaults}
use Rattle.sgraph_opt.proofs.IsGraphOf.{of_machine}
use Rattle.sgraph_opt.proofs.Reduced.{is_reduced_graph, drop_without}
use Rattle.sgraph_opt.proofs.optimising.optimise.Goals as goal

pub returns-clause-reduced : goal.returns-clause-reduced
returns-clause-reduced c =
    subst Reduced (sym c.in_ok-h.ensures.list)
    (is_reduced_graph c.args.g.now c.in_ok-reps.reps c.len.ensures.graph
    c.in_ok-reps.ensures.stands true c.in_ok-reps.ensures.shared)

pub returns-clause-defaults : goal.returns-clause-defaults
returns-clause-defaults c =
    subst NoDefaults (sym c.in_ok-h.ensures.list)
    (drop_without c.args.g.now c.in_ok-reps.reps c.len.ensures.graph
    c.in_ok-reps.ensures.stands c.in_ok-reps.ensures.shared)

pub returns-clause-of_machine : goal.returns-clause-of_machine
returns-clause-of_machine c = λ m order own.
    of_machine m order c.args.g.now c.in_ok-h.h c.in_ok-h.ensures.keeps
    (returns-clause-reduced c) own
