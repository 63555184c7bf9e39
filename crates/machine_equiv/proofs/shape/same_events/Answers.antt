use Rattle.std.proofs.Common.{refl, sym, ◌∙◌, arith}
use Rattle.machine_equiv.specs.inner.Agreeing.{IsSameEvent}
use Rattle.machine_equiv.proofs.IsSameMachine.{events_agree, event_at}
use Rattle.transition_table.proofs.EventWords.{event_domain}
use Rattle.polis_base.proofs.AgreeBelow.{one_more}
use Rattle.machine_equiv.proofs.shape.same_events.Goals as goal

pub same_event-requires-clause-first : goal.same_event-requires-clause-first
same_event-requires-clause-first c =
    event_domain c.args.a.now c.loop-e.e c.get.result.now c.get.ensures

pub same_event-requires-clause-second : goal.same_event-requires-clause-second
same_event-requires-clause-second c =
    event_domain c.args.b.now c.loop-e.e c.get-in-loop-e.result.now c.get-in-loop-e.ensures

pub returns-then-not-same_event : goal.returns-then-not-same_event
returns-then-not-same_event c = (
  λ wrong. cc,
  λ same.
      let found = event_at c.args.a.now c.args.b.now c.loop-e.e c.get.result.now
      c.get-in-loop-e.result.now same c.get.ensures c.get-in-loop-e.ensures in
      sym c.if-not-same_event.true ∙ c.same_event.ensures.1 found,
)

pub loop-e-preserved : goal.loop-e-preserved
loop-e-preserved c =
    one_more (IsSameEvent c.args.a.now c.args.b.now) c.args.a.now.events c.args.b.now.events
    c.loop-e.e c.get.result.now c.get-in-loop-e.result.now c.get.ensures c.get-in-loop-e.ensures
    (c.same_event.ensures.0 c.if-not-same_event.false) c.loop-e.invariant

pub returns : goal.returns
returns c = (
  λ held. events_agree c.args.a.now c.args.b.now
      (let x = c.len.ensures in let y = c.len-2.ensures in let z = c.if-len.false in omega arith)
      (λ k x y low. c.loop-e.invariant k x y
      (let n = c.len-e-end.ensures in let end = c.loop-e-test.false in omega arith)),
  λ same. refl,
)
