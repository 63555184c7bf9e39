use Rattle.cost_bound.proofs.LabelSteps.{Labelled}
use Rattle.cost_bound.proofs.certificate.labels.Given as goal

abbrev pub invariant-loop-at : goal.invariant-loop-at
invariant-loop-at l = Labelled l.costs l.code l.labels l.at
