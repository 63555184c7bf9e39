use Rattle.std.proofs.Common.{refl, arith}
use Rattle.transition_table.specs.declared.decl.StateDecl.{StateDecl}
use Rattle.polis_base.proofs.AgreeBelow.{column, at_both}
use Rattle.machine_equiv.proofs.form.same_initial_values.Goals as goal

pub returns-then-get : goal.returns-then-get
returns-then-get c = (
  λ wrong. cc,
  λ same. absurd (c.if-get.true (at_both (λ (state : StateDecl). state.init) (λ state. state.init)
      c.args.a.now c.args.b.now c.loop-k.k c.get.result.now c.get-in-loop-k.result.now same
      c.get.ensures c.get-in-loop-k.ensures)),
)

pub returns : goal.returns
returns c = (
  λ held. column (λ (state : StateDecl). state.init) (λ state. state.init) c.args.a.now c.args.b.now
      (let x = c.len.ensures in let y = c.len-2.ensures in let z = c.if-len.false in
      omega arith)
      (λ k x y low. c.loop-k.invariant k x y (let n = c.len-k-end.ensures in
      let end = c.loop-k-test.false in omega arith)),
  λ same. refl,
)
