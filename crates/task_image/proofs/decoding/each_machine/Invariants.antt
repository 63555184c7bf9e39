use Rattle.std.proofs.Common.{◌≡◌, ◌-◌}
use Rattle.task_image.specs.inner.Reading.{machine_at}
use Rattle.task_image.specs.inner.FieldReaders.{each_at}
use Rattle.task_image.proofs.EachAt.{with_prefix}
use Rattle.task_image.proofs.decoding.each_machine.Given as goal

abbrev pub invariant-loop : goal.invariant-loop
invariant-loop l =
    with_prefix l.image (each_at (λ k. machine_at) l.counter (l.count - l.counter) l.rest)
    ≡ each_at (λ k. machine_at) 0 l.count l.bytes
