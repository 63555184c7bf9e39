use Rattle.std.proofs.Common.{subst, sym}
use Rattle.transition_table.specs.Transitions.{IsSnapshot, OfMachine}
use Rattle.transition_table.specs.declared.snapshot.Snapshot.{Snapshot}
use Rattle.scheduler_gen.proofs.run.snapshot_of.Goals as goal

pub returns-clause-is : goal.returns-clause-is
returns-clause-is c = c.snapshot.ensures

pub returns-clause-fits : goal.returns-clause-fits
returns-clause-fits c =
    let now = c.args.config.now in
    subst (λ (s : Snapshot). OfMachine now.net c.args.m (λ machine. IsSnapshot machine s))
    (sym c.snapshot.ensures)
    (c.laws.ensures.snap_fits now.net now.journal c.args.m c.journal-journal.ensures.legal.0
    c.requires)
