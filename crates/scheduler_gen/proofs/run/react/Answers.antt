use Rattle.std.proofs.Common.{◌<◌, ap, length, subst, sym}
use Rattle.transition_table.specs.Transitions.{IsSnapshot, OfMachine, Transition}
use Rattle.transition_table.specs.declared.network.Network.{Network}
use Rattle.transition_table.specs.declared.snapshot.Snapshot.{Snapshot}
use Rattle.journals.specs.declared.entry.Entry.TheVariants.{Rea}
use Rattle.scheduler_gen.proofs.run.react.Goals as goal

pub outcome_of-requires-clause-machine : goal.outcome_of-requires-clause-machine
outcome_of-requires-clause-machine g c =
    subst (λ (net : Network). c.args.m < length net.machines) (sym c.requires.network)
    c.requires.machine

pub outcome_of-requires-clause-snapshot : goal.outcome_of-requires-clause-snapshot
outcome_of-requires-clause-snapshot g c =
    subst (λ (net : Network). OfMachine net c.args.m
    (λ machine. IsSnapshot machine c.in_ok-snapshot.snapshot)) (sym c.requires.network)
    c.in_ok-snapshot.ensures.fits

pub take_picked-requires : goal.take_picked-requires
take_picked-requires g c =
    let o = c.in_ok-outcome.outcome in
    let is = c.in_ok-snapshot.ensures.is in
    let made = subst
    (λ (net : Network). OfMachine net c.args.m
    (λ machine. Transition machine c.in_ok-snapshot.snapshot o)) c.requires.network
    c.in_ok-outcome.ensures in
    let own = subst
    (λ (s : Snapshot). OfMachine c.args.config.now.net c.args.m
    (λ machine. Transition machine s o)) is made in
    rw c.requires.picked (o, ap (λ (s : Snapshot). Rea c.args.m s o) is, own)
