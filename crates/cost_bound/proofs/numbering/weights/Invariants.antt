use Rattle.cost_bound.proofs.Weights.{Weighed}
use Rattle.cost_bound.proofs.numbering.weights.Given as goal

abbrev pub invariant-loop-v : goal.invariant-loop-v
invariant-loop-v l = Weighed l.vars l.weights l.weight l.v
