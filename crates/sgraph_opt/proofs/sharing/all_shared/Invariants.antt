use Rattle.sgraph_opt.specs.inner.Choices.{Sharing}
use Rattle.sgraph_opt.proofs.sharing.all_shared.Given as goal

-- the vertices from this one on have what stands for them, and the index has those that stand for
-- themselves
abbrev pub invariant-loop-k : goal.invariant-loop-k
invariant-loop-k l = Sharing l.drops l.g l.reps l.index l.k
