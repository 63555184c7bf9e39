use Rattle.std.specs.Prelude.{slice_get}
use Rattle.std.proofs.lemmas.Result.{err_from_is_err_and}
use Rattle.task_image.specs.inner.Pieces.{machine_bytes}
use Rattle.task_image.specs.inner.Heads.{machine_of}
use Rattle.task_image.proofs.Writes.{put_next, put_stops, machine_at}
use Rattle.task_image.proofs.encoding.put_machines.Goals as goal

pub put_machine-requires : goal.put_machine-requires
put_machine-requires c =
    c.requires.image.each c.loop-k.k (machine_of c.head.result.now c.code.result.now)
    (machine_at (slice_get c.args.image.now c.loop-k.k) c.head.result.now c.code.result.now
    c.head.ensures c.code.ensures)

pub returns-in_err-put_machine : goal.returns-in_err-put_machine
returns-in_err-put_machine c =
    let p = err_from_is_err_and c.from_residual.result c.from_residual.ensures.1 in
    rw (p.1, p.2) (put_stops c.in_err-put_machine.field-0.0 machine_bytes c.args.out.now
    c.args.image.now c.loop-k.k (machine_of c.head.result.now c.code.result.now) c.loop-k.out
    c.put_machine.new.out _
    (machine_at (slice_get c.args.image.now c.loop-k.k) c.head.result.now c.code.result.now
    c.head.ensures c.code.ensures) c.loop-k.invariant c.in_err-put_machine.ensures)

pub loop-k-preserved : goal.loop-k-preserved
loop-k-preserved c =
    put_next machine_bytes c.args.out.now c.args.image.now c.loop-k.k
    (machine_of c.head.result.now c.code.result.now) c.loop-k.out c.put_machine.new.out
    (machine_at (slice_get c.args.image.now c.loop-k.k) c.head.result.now c.code.result.now
    c.head.ensures c.code.ensures) c.loop-k.invariant c.in_ok-put_machine.ensures
