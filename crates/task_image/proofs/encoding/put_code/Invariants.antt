use Rattle.std.proofs.Common.{◌++◌, length}
use Rattle.task_image.specs.Fields.{four_bytes}
use Rattle.task_image.specs.inner.Pieces.{instr_bytes}
use Rattle.task_image.proofs.Writes.{ArePut}
use Rattle.task_image.proofs.encoding.put_code.Given as goal

abbrev pub invariant-loop-k : goal.invariant-loop-k
invariant-loop-k l = ArePut instr_bytes (l.fn.out ++ four_bytes (length l.code)) l.code l.k l.out
