use Rattle.task_image.specs.Fields.{four_bytes}
use Rattle.task_image.proofs.Writes.{ArePut}
use Rattle.task_image.proofs.encoding.put_targets.Given as goal

abbrev pub invariant-loop-j : goal.invariant-loop-j
invariant-loop-j l = ArePut four_bytes l.fn.out l.targets l.j l.out
