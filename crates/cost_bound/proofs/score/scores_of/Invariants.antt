use Rattle.cost_bound.proofs.ScoreSteps.{Scored}
use Rattle.cost_bound.proofs.score.scores_of.Given as goal

abbrev pub invariant-loop-at : goal.invariant-loop-at
invariant-loop-at l = Scored l.aim l.costs l.weights l.code l.scores l.at
