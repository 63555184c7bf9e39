use Rattle.sgraph_opt.specs.inner.Representatives.{Dropping}
use Rattle.sgraph_opt.proofs.dropping.past_defaults.Given as goal

-- the vertices from this one on have what stands for them
abbrev pub invariant-loop-k : goal.invariant-loop-k
invariant-loop-k l = Dropping l.g l.reps l.k
