use Rattle.std.proofs.Common.{◌++◌, length, arith}
use Rattle.std.proofs.lemmas.Result.{err_from_is_err_and}
use Rattle.task_image.specs.Fields.{four_bytes}
use Rattle.task_image.specs.inner.Pieces.{instr_bytes}
use Rattle.task_image.proofs.Writes.{put_next, code_stops, code_too_long}
use Rattle.task_image.proofs.encoding.put_code.Goals as goal

pub returns-then-len-gt-LONG_FILE_MAX : goal.returns-then-len-gt-LONG_FILE_MAX
returns-then-len-gt-LONG_FILE_MAX c =
    let t = c.if-len-gt-LONG_FILE_MAX.true in
    let l = c.len.ensures.len in
    code_too_long c.args.out.now c.args.code.now c.args.out.now (omega (arith, t, l))

pub returns-in_err-put_instr : goal.returns-in_err-put_instr
returns-in_err-put_instr c =
    let p = err_from_is_err_and c.from_residual-in_err-put_instr.result
    c.from_residual-in_err-put_instr.ensures.1 in
    rw (p.1, p.2) (code_stops c.in_err-put_instr.field-0.0 c.args.out.now c.args.code.now
    c.loop-k.k c.get.result.now c.loop-k.out c.put_instr.new.out _ c.get.ensures
    c.loop-k.invariant c.in_err-put_instr.ensures)

pub loop-k-preserved : goal.loop-k-preserved
loop-k-preserved c =
    put_next instr_bytes (c.args.out.now ++ four_bytes (length c.args.code.now)) c.args.code.now
    c.loop-k.k c.get.result.now c.loop-k.out c.put_instr.new.out c.get.ensures c.loop-k.invariant
    c.in_ok-put_instr.ensures
