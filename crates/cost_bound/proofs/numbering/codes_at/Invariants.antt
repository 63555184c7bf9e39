use Rattle.cost_bound.proofs.Weights.{Numbered}
use Rattle.cost_bound.proofs.numbering.codes_at.Given as goal

abbrev pub invariant-loop-v : goal.invariant-loop-v
invariant-loop-v l = Numbered l.vars l.fn.number l.codes l.left l.v
