use Rattle.std.proofs.Common.{◌≡◌, ◌-◌}
use Rattle.task_image.specs.inner.Reading.{target_at}
use Rattle.task_image.specs.inner.FieldReaders.{each_at}
use Rattle.task_image.proofs.EachAt.{with_prefix}
use Rattle.task_image.proofs.decoding.each_target.Given as goal

abbrev pub invariant-loop : goal.invariant-loop
invariant-loop l =
    with_prefix l.targets (each_at (λ j. target_at l.count l.k) l.counter (l.size - l.counter)
    l.rest)
    ≡ each_at (λ j. target_at l.count l.k) 0 l.size l.bytes
