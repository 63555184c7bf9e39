use Rattle.std.proofs.Common.{◌∙◌, sym}
use Rattle.std.proofs.lemmas.Bool.{eqb-true}
use Rattle.decision_diagram.proofs.OperationResults.{settled_left, settled_right, settled_other, settled_one, settled_same}
use Rattle.decision_diagram.proofs.apply.settled.Goals as goal
use Rattle.decision_diagram.proofs.apply.settled.Goals.{then-eq, else-eq, then-eq-3, else-eq-3}

pub returns-then-eq-2-clause-value : goal.returns-then-eq-2-clause-value
returns-then-eq-2-clause-value c = λ s codes. elim c.if-eq.branch [
  | then-eq w ↦ settled_left s c.args.op c.absorbing-absorbing.result c.args.a c.args.b codes
      c.absorbing-absorbing.ensures
      (eqb-true c.args.a c.absorbing-absorbing.result (sym c.eq.ensures ∙ w.if-eq.true))
  | else-eq w ↦ settled_right s c.args.op c.absorbing-absorbing.result c.args.a c.args.b codes
      c.absorbing-absorbing.ensures
      (eqb-true c.args.b c.absorbing-absorbing.result
      (sym w.eq-else-eq.ensures ∙ sym w.value-is ∙ c.if-eq-2.true))
]

pub returns-then-eq-4-clause-value : goal.returns-then-eq-4-clause-value
returns-then-eq-4-clause-value c = λ s codes. elim c.if-eq-3.branch [
  | then-eq-3 w ↦ settled_other s c.args.op c.neutral-neutral.result c.args.a c.args.b codes
      c.neutral-neutral.ensures
      (eqb-true c.args.a c.neutral-neutral.result (sym c.eq-else-eq-2.ensures ∙ w.if-eq-3.true))
  | else-eq-3 w ↦ settled_same s c.args.op c.args.a c.args.b codes
      (eqb-true c.args.a c.args.b (sym w.eq-else-eq-3.ensures ∙ sym w.value-is ∙ c.if-eq-4.true))
]

pub returns-then-eq-5-clause-value : goal.returns-then-eq-5-clause-value
returns-then-eq-5-clause-value c =
    λ s codes. settled_one s c.args.op c.neutral-neutral.result c.args.a c.args.b codes
    c.neutral-neutral.ensures
    (eqb-true c.args.b c.neutral-neutral.result (sym c.eq-else-eq-4.ensures ∙ c.if-eq-5.true))
