use Rattle.std.proofs.Common.{subst}
use Rattle.transition_table.specs.Transitions.{OfMachine, Transition}
use Rattle.transition_table.specs.declared.snapshot.Outcome.{Outcome}
use Rattle.net_core.proofs.MayFollow.{outcomes_agree}
use Rattle.net_core.proofs.blanks.makes.Goals as goal

pub returns-clause-gives : goal.returns-clause-gives
returns-clause-gives g c =
    let a = c.args in
    let net = g.R.Reactor.meaning a.r.now in (
      (λ h. subst (λ (x : Outcome). OfMachine net a.m (λ machine. Transition machine a.s.now x))
          (c.same_outcome.ensures.0 h) c.react.ensures),
      (λ h. c.same_outcome.ensures.1
          (outcomes_agree c.laws.ensures.one_outcome net a.m a.s.now c.react.new.o a.o.now a.o.now
          (g.met.R.Reactor.deterministic a.r.now) c.requires.fits c.react.ensures h)),
    )
