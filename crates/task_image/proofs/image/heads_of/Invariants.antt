use Rattle.std.proofs.Common.{take}
use Rattle.task_image.specs.inner.Heads.{AreHeads}
use Rattle.task_image.proofs.image.heads_of.Given as goal

abbrev pub invariant-loop-k : goal.invariant-loop-k
invariant-loop-k l = AreHeads (take l.k l.machines) l.heads.items
