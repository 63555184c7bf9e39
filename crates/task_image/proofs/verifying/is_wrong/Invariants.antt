use Rattle.task_image.specs.inner.Walks.{IsWalk}
use Rattle.task_image.proofs.verifying.is_wrong.Given as goal

abbrev pub invariant-loop-i : goal.invariant-loop-i
invariant-loop-i l = IsWalk l.m l.code l.s l.o l.i
