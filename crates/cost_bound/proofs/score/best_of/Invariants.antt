use Rattle.cost_bound.specs.inner.Scores.{IsBestOf}
use Rattle.cost_bound.proofs.score.best_of.Given as goal

abbrev pub invariant-loop-code : goal.invariant-loop-code
invariant-loop-code l = IsBestOf l.aim l.weight l.scores l.targets l.code l.best
