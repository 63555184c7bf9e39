use Rattle.std.proofs.lemmas.Result.{err_from_is_err_and}
use Rattle.task_image.specs.inner.Reading.{instr_at}
use Rattle.task_image.proofs.EachAt.{goes_on, ends, is_done}
use Rattle.task_image.proofs.decoding.each_instr.Goals as goal

pub returns-in_err-instr : goal.returns-in_err-instr
returns-in_err-instr c =
    let p = err_from_is_err_and c.from_residual.result c.from_residual.ensures.1 in
    rw (p.1, p.2) (ends (instr_at c.args.vars.now c.args.results.now c.args.count)
    c.in_err-instr.field-0.0 c.loop-k.instrs c.args.count c.loop-k.k c.loop-k.rest.now
    _ c.loop-k-test.true c.in_err-instr.ensures c.loop-k.invariant)

pub loop-k-preserved : goal.loop-k-preserved
loop-k-preserved c =
    rw c.in_ok-push.ensures.ok (goes_on (instr_at c.args.vars.now c.args.results.now c.args.count)
    c.loop-k.instrs c.args.count c.loop-k.k c.loop-k.rest.now
    c.in_ok-instr.instr c.in_ok-instr.after.now _ c.loop-k-test.true c.in_ok-instr.ensures
    c.loop-k.invariant)

pub returns : goal.returns
returns c =
    is_done (instr_at c.args.vars.now c.args.results.now c.args.count) c.loop-k.instrs c.args.count
    c.loop-k.k c.loop-k.rest.now _ c.loop-k-test.false c.loop-k.invariant
