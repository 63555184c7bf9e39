use Rattle.std.proofs.Common.{◌≡◌, [], length, get_or, ap, sym, subst, ◌∙◌, arith}
use Rattle.transition_table.specs.Transitions.{AreDeterministic, OfMachine, IsSnapshot, Transition}
use Rattle.transition_table.specs.declared.network.Network.{Network}
use Rattle.transition_table.specs.declared.snapshot.Snapshot.{Snapshot}
use Rattle.journals.specs.Journals.{snap}
use Rattle.journals.specs.Logs.{entries}
use Rattle.worker_core.proofs.OwnMoments.{length_own, own_moment, reaction_made}
use Rattle.worker_core.proofs.parts.Parts.reaction.Goals as goal

pub get-requires : goal.get-requires
get-requires g c =
    let size = ap length c.requires.parts.moments_are
    ∙ length_own c.args.net.now c.args.self.now.logs in
    let below = c.requires.machine in
    omega arith

pub react-requires-clause-snapshot : goal.react-requires-clause-snapshot
react-requires-clause-snapshot g c =
    let net = c.args.net.now in
    let journal = entries (get_or c.args.self.now.logs c.args.m []) in
    let is : c.in_ok-snapshot.snapshot ≡ snap net journal c.args.m = c.in_ok-snapshot.ensures
    ∙ own_moment net c.args.self.now.logs c.args.self.now.moments c.args.m c.get.result.now
    c.requires.parts.moments_are c.requires.machine c.get.ensures in
    subst (λ (n : Network). OfMachine n c.args.m
    (λ machine. IsSnapshot machine c.in_ok-snapshot.snapshot)) (sym c.requires.network)
    (subst (λ (s : Snapshot). OfMachine net c.args.m (λ machine. IsSnapshot machine s)) (sym is)
    (c.laws.ensures.snap_fits net journal c.args.m
    (c.requires.parts.core.facts.alone c.args.m).fitting c.requires.machine))

pub returns : goal.returns
returns g c =
    let net = c.args.net.now in
    let journal = entries (get_or c.args.self.now.logs c.args.m []) in
    let is : c.in_ok-snapshot.snapshot ≡ snap net journal c.args.m = c.in_ok-snapshot.ensures
    ∙ own_moment net c.args.self.now.logs c.args.self.now.moments c.args.m c.get.result.now
    c.requires.parts.moments_are c.requires.machine c.get.ensures in
    reaction_made net c.args.m journal c.in_ok-snapshot.snapshot c.react.new.o
    c.laws-2.ensures.one_outcome c.laws.ensures.gives_transition
    (subst AreDeterministic c.requires.network (g.met.R.Reactor.deterministic c.args.r.now))
    (subst (λ (s : Snapshot). OfMachine net c.args.m (λ machine. IsSnapshot machine s)) (sym is)
    (c.laws.ensures.snap_fits net journal c.args.m
    (c.requires.parts.core.facts.alone c.args.m).fitting c.requires.machine))
    (subst (λ (n : Network). OfMachine n c.args.m
    (λ machine. Transition machine c.in_ok-snapshot.snapshot c.react.new.o)) c.requires.network
    c.react.ensures)
    is
