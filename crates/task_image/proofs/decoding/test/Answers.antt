use Rattle.std.proofs.lemmas.Result.{err_from_is_err_and}
use Rattle.task_image.proofs.CodeAt.{test_given, test_fails}
use Rattle.task_image.proofs.decoding.test.Goals as goal

pub returns-in_err-targets : goal.returns-in_err-targets
returns-in_err-targets c =
    let p = err_from_is_err_and c.from_residual-in_err-targets.result
    c.from_residual-in_err-targets.ensures.1 in
    rw (p.1, p.2) (test_fails c.args.vars.now c.args.count c.args.k c.args.bytes.now c.in_ok-var.var
    c.in_ok-var.rest.now c.get-size.result.now c.in_err-targets.field-0.0
    (rw c.len.ensures.len at c.in_ok-var.ensures)
    (rw c.from.ensures at c.get-size.ensures) c.in_err-targets.ensures)

pub returns : goal.returns
returns c =
    rw c.from-2.ensures (test_given c.args.vars.now c.args.count c.args.k c.args.bytes.now
    c.in_ok-var.var c.in_ok-var.rest.now c.get-size.result.now _
    (rw c.len.ensures.len at c.in_ok-var.ensures)
    (rw c.from.ensures at c.get-size.ensures) c.in_ok-targets.ensures)
