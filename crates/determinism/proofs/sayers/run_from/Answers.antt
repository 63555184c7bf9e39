use Rattle.std.proofs.Common.{◌+◌, arith, inl, inr, subst, sym, ◌∙◌, ◌≡◌}
use Rattle.std.specs.Int.{bit_at}
use Rattle.std.proofs.lemmas.Bool.{cases_lt, eqb-true}
use Rattle.determinism.proofs.sayers.run_from.Goals as goal

pub loop-k-init : goal.loop-k-init
loop-k-init c = λ j from below. absurd (omega arith)

pub loop-k-preserved : goal.loop-k-preserved
loop-k-preserved c = λ j from below.
    elim (cases_lt j c.loop-k.k) [
      | inl before ↦ c.loop-k.invariant j from before
      | inr past ↦
          let here : j ≡ c.loop-k.k = omega arith in
          subst (λ i. bit_at c.args.set i ≡ 1) (sym here)
          (eqb-true (bit_at c.args.set c.loop-k.k) 1 (sym c.has.ensures ∙ c.if-not-has.false))
    ]

pub returns-then-not-has-clause-there : goal.returns-then-not-has-clause-there
returns-then-not-has-clause-there c = λ i below.
    c.loop-k.invariant (c.args.place + i) (omega arith) (omega arith)

pub returns-clause-there : goal.returns-clause-there
returns-clause-there c = λ i below.
    let done = c.loop-k-test.false in
    c.loop-k.invariant (c.args.place + i) (omega arith) (omega arith)
