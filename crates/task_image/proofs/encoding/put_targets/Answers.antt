use Rattle.std.proofs.lemmas.Result.{err_from_is_err_and}
use Rattle.task_image.specs.Fields.{four_bytes}
use Rattle.task_image.proofs.Writes.{put_next, put_stops}
use Rattle.task_image.proofs.encoding.put_targets.Goals as goal

pub returns-in_err-put_number : goal.returns-in_err-put_number
returns-in_err-put_number c =
    let p = err_from_is_err_and c.from_residual.result c.from_residual.ensures.1 in
    rw (p.1, p.2) (put_stops c.in_err-put_number.field-0.0 four_bytes c.args.out.now
    c.args.targets.now c.loop-j.j c.get.result.now c.loop-j.out c.put_number.new.out _
    c.get.ensures c.loop-j.invariant c.in_err-put_number.ensures)

pub loop-j-preserved : goal.loop-j-preserved
loop-j-preserved c =
    put_next four_bytes c.args.out.now c.args.targets.now c.loop-j.j c.get.result.now c.loop-j.out
    c.put_number.new.out c.get.ensures c.loop-j.invariant c.in_ok-put_number.ensures
