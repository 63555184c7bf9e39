use Rattle.std.proofs.Common.{◌≡◌, ◌-◌}
use Rattle.task_image.specs.inner.FieldReaders.{byte_at, within, each_at}
use Rattle.task_image.proofs.EachAt.{with_prefix}
use Rattle.task_image.proofs.decoding.each_size.Given as goal

abbrev pub invariant-loop : goal.invariant-loop
invariant-loop l =
    with_prefix l.sizes (each_at (λ k. byte_at (within 1 33)) l.counter (l.count - l.counter) l.rest)
    ≡ each_at (λ k. byte_at (within 1 33)) 0 l.count l.bytes
