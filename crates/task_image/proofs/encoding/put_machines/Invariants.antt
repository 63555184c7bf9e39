use Rattle.task_image.specs.inner.Pieces.{machine_bytes}
use Rattle.task_image.proofs.Writes.{ArePut}
use Rattle.task_image.proofs.encoding.put_machines.Given as goal

abbrev pub invariant-loop-k : goal.invariant-loop-k
invariant-loop-k l = ArePut machine_bytes l.fn.out l.image l.k l.out
