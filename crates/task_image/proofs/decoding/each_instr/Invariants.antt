use Rattle.std.proofs.Common.{◌≡◌, ◌-◌}
use Rattle.task_image.specs.inner.Reading.{instr_at}
use Rattle.task_image.specs.inner.FieldReaders.{each_at}
use Rattle.task_image.proofs.EachAt.{with_prefix}
use Rattle.task_image.proofs.decoding.each_instr.Given as goal

abbrev pub invariant-loop-k : goal.invariant-loop-k
invariant-loop-k l =
    with_prefix l.instrs (each_at (instr_at l.vars l.results l.count) l.k (l.count - l.k) l.rest)
    ≡ each_at (instr_at l.vars l.results l.count) 0 l.count l.bytes
