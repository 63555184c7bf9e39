use Rattle.std.proofs.Common.{refl, sym, ◌∙◌, arith}
use Rattle.machine_equiv.specs.inner.Agreeing.{IsSameMachine}
use Rattle.machine_equiv.proofs.IsSameMachine.{machines_agree, machine_at, state_domains}
use Rattle.polis_base.proofs.AgreeBelow.{one_more}
use Rattle.machine_equiv.proofs.shape.same_machines.Goals as goal

pub same_machine-requires-clause-first : goal.same_machine-requires-clause-first
same_machine-requires-clause-first c =
    state_domains c.args.a.now c.loop-k.k c.get.result.now c.get.ensures

pub same_machine-requires-clause-second : goal.same_machine-requires-clause-second
same_machine-requires-clause-second c =
    state_domains c.args.b.now c.loop-k.k c.get-in-loop-k.result.now c.get-in-loop-k.ensures

pub returns-then-not-same_machine : goal.returns-then-not-same_machine
returns-then-not-same_machine c = (
  λ wrong. cc,
  λ same.
      let found = machine_at c.args.a.now c.args.b.now c.loop-k.k c.get.result.now
      c.get-in-loop-k.result.now same c.get.ensures c.get-in-loop-k.ensures in
      sym c.if-not-same_machine.true ∙ c.same_machine.ensures.1 found,
)

pub loop-k-preserved : goal.loop-k-preserved
loop-k-preserved c =
    one_more (IsSameMachine c.args.a.now c.args.b.now) c.args.a.now.machines c.args.b.now.machines
    c.loop-k.k c.get.result.now c.get-in-loop-k.result.now c.get.ensures c.get-in-loop-k.ensures
    (c.same_machine.ensures.0 c.if-not-same_machine.false) c.loop-k.invariant

pub returns : goal.returns
returns c = (
  λ held. machines_agree c.args.a.now c.args.b.now
      (let x = c.len.ensures in let y = c.len-2.ensures in let z = c.if-len.false in omega arith)
      (λ k x y low. c.loop-k.invariant k x y
      (let n = c.len-k-end.ensures in let end = c.loop-k-test.false in omega arith)),
  λ same. refl,
)
