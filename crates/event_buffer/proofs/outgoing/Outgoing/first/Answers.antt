use Rattle.std.proofs.Common.{sym, ap, ◌∙◌}
use Rattle.polis_base.specs.Lists.{head_of}
use Rattle.event_buffer.specs.Arrivals.{OutgoingState}
use Rattle.event_buffer.proofs.Lists.{head_of_left, not_empty}
use Rattle.event_buffer.proofs.outgoing.Outgoing.first.Goals as goal

pub returns-then-self-clause-some : goal.returns-then-self-clause-some
returns-then-self-clause-some c =
    let i = c.self.inside in
    sym (ap (λ (out : OutgoingState). head_of out.arrivals) c.self.view_is)
    ∙ head_of_left i.arrivals i.end i.next c.get.result.now c.if-self.true c.get.ensures

pub returns-then-self-clause-none : goal.returns-then-self-clause-none
returns-then-self-clause-none c =
    let first = returns-then-self-clause-some c in (
      (λ h. absurd cc),
      (λ h. absurd (not_empty c.args.self.now.arrivals c.get.result.now first h)),
    )
