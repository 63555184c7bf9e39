use Rattle.std.proofs.Common.{length, refl, sym, ◌∙◌, arith}
use Rattle.machine_equiv.specs.inner.Agreeing.{IsSameState}
use Rattle.machine_equiv.proofs.IsSameMachine.{states_agree, state_at, state_domain}
use Rattle.polis_base.proofs.AgreeBelow.{one_more}
use Rattle.machine_equiv.proofs.shape.same_states.Goals as goal

pub same_state-requires-clause-first : goal.same_state-requires-clause-first
same_state-requires-clause-first c =
    state_domain (length c.args.a.now.domains) c.args.xs.now c.loop-k.k c.get.result.now
    c.requires.first c.get.ensures

pub same_state-requires-clause-second : goal.same_state-requires-clause-second
same_state-requires-clause-second c =
    state_domain (length c.args.b.now.domains) c.args.ys.now c.loop-k.k
    c.get-in-loop-k.result.now c.requires.second c.get-in-loop-k.ensures

pub returns-then-not-same_state : goal.returns-then-not-same_state
returns-then-not-same_state c = (
  λ wrong. cc,
  λ same.
      let found = state_at c.args.a.now c.args.b.now c.args.xs.now c.args.ys.now c.loop-k.k
      c.get.result.now c.get-in-loop-k.result.now same c.get.ensures
      c.get-in-loop-k.ensures in
      sym c.if-not-same_state.true ∙ c.same_state.ensures.1 found,
)

pub loop-k-preserved : goal.loop-k-preserved
loop-k-preserved c =
    one_more (IsSameState c.args.a.now c.args.b.now) c.args.xs.now c.args.ys.now c.loop-k.k
    c.get.result.now c.get-in-loop-k.result.now c.get.ensures c.get-in-loop-k.ensures
    (c.same_state.ensures.0 c.if-not-same_state.false) c.loop-k.invariant

pub returns : goal.returns
returns c = (
  λ held. states_agree c.args.a.now c.args.b.now c.args.xs.now c.args.ys.now
      (let x = c.len.ensures in let y = c.len-2.ensures in let z = c.if-len.false in omega arith)
      (λ k x y low. c.loop-k.invariant k x y
      (let n = c.len-k-end.ensures in let end = c.loop-k-test.false in omega arith)),
  λ same. refl,
)
