use Rattle.std.proofs.Common.{◌≡◌, ℕ, ◌-◌, List, length, take, drop, sym, ap, subst, ◌∙◌, arith}
use Rattle.std.proofs.lemmas.Result.{err_from_is_err_and}
use Rattle.task_image.specs.inner.Gives.{Fails}
use Rattle.task_image.specs.inner.Reading.{sizes_at}
use Rattle.task_image.proofs.CodeAt.{code_is, whole, fails_at_width, fails_at_name, fails_at_vars, fails_at_results, fails_at_code}
use Rattle.task_image.proofs.decoding.machine.Goals as goal
use Rattle.polis_base.proofs.Places.{to_the_end}

pub returns-in_err-width : goal.returns-in_err-width
returns-in_err-width c =
    let p = err_from_is_err_and c.from_residual.result c.from_residual.ensures.1 in
    rw (p.1, p.2)
    (fails_at_width c.args.bytes.now c.in_err-width.field-0.0
    c.in_err-width.ensures)

pub returns-in_err-name : goal.returns-in_err-name
returns-in_err-name c =
    let p = err_from_is_err_and c.from_residual-in_err-name.result c.from_residual-in_err-name.ensures.1 in
    rw (p.1, p.2)
    (fails_at_name c.args.bytes.now c.in_ok-width.width c.in_ok-width.rest.now c.in_err-name.field-0.0
    c.in_ok-width.ensures c.in_err-name.ensures.name)

pub returns-in_err-vars : goal.returns-in_err-vars
returns-in_err-vars c =
    let p = err_from_is_err_and c.from_residual-in_err-vars.result c.from_residual-in_err-vars.ensures.1 in
    let left : drop c.in_ok-width.width c.in_ok-width.rest.now
    ≡ take (length c.in_ok-width.rest.now - c.from.result)
    (drop c.from.result c.in_ok-width.rest.now) =
    ap (λ (m : ℕ). drop m c.in_ok-width.rest.now) (sym c.from.ensures)
    ∙ sym (to_the_end c.in_ok-width.rest.now c.from.result) in
    rw (p.1, p.2)
    (fails_at_vars c.args.bytes.now c.in_ok-width.width c.in_ok-width.rest.now
    c.in_ok-name.name (drop c.in_ok-width.width c.in_ok-width.rest.now) c.in_err-vars.field-0.0
    c.in_ok-width.ensures c.in_ok-name.ensures.name (subst (λ (l : List ℕ). Fails c.in_err-vars.field-0.0 (sizes_at 24 l)) (sym left)
    c.in_err-vars.ensures))

pub returns-in_err-results : goal.returns-in_err-results
returns-in_err-results c =
    let p = err_from_is_err_and c.from_residual-in_err-results.result c.from_residual-in_err-results.ensures.1 in
    let left : drop c.in_ok-width.width c.in_ok-width.rest.now
    ≡ take (length c.in_ok-width.rest.now - c.from.result)
    (drop c.from.result c.in_ok-width.rest.now) =
    ap (λ (m : ℕ). drop m c.in_ok-width.rest.now) (sym c.from.ensures)
    ∙ sym (to_the_end c.in_ok-width.rest.now c.from.result) in
    rw (p.1, p.2)
    (fails_at_results c.args.bytes.now c.in_ok-width.width c.in_ok-width.rest.now
    c.in_ok-name.name (drop c.in_ok-width.width c.in_ok-width.rest.now) c.in_ok-vars.vars
    c.in_ok-vars.rest.now c.in_err-results.field-0.0
    c.in_ok-width.ensures c.in_ok-name.ensures.name
    (ap (sizes_at 24) left ∙ c.in_ok-vars.ensures) c.in_err-results.ensures)

pub returns-in_err-instrs : goal.returns-in_err-instrs
returns-in_err-instrs c =
    let p = err_from_is_err_and c.from_residual-in_err-instrs.result c.from_residual-in_err-instrs.ensures.1 in
    let left : drop c.in_ok-width.width c.in_ok-width.rest.now
    ≡ take (length c.in_ok-width.rest.now - c.from.result)
    (drop c.from.result c.in_ok-width.rest.now) =
    ap (λ (m : ℕ). drop m c.in_ok-width.rest.now) (sym c.from.ensures)
    ∙ sym (to_the_end c.in_ok-width.rest.now c.from.result) in
    rw (p.1, p.2)
    (fails_at_code c.args.bytes.now c.in_ok-width.width c.in_ok-width.rest.now
    c.in_ok-name.name (drop c.in_ok-width.width c.in_ok-width.rest.now) c.in_ok-vars.vars
    c.in_ok-vars.rest.now c.in_ok-results.results c.in_ok-results.rest.now c.in_err-instrs.field-0.0
    c.in_ok-width.ensures c.in_ok-name.ensures.name
    (ap (sizes_at 24) left ∙ c.in_ok-vars.ensures) c.in_ok-results.ensures c.in_err-instrs.ensures)

pub of-requires : goal.of-requires
of-requires c =
    code_is c.args.bytes.now c.in_ok-width.width c.in_ok-width.rest.now c.in_ok-name.name
    c.from.result c.in_ok-vars.vars c.in_ok-vars.rest.now c.in_ok-results.results
    c.in_ok-results.rest.now c.in_ok-instrs.instrs c.in_ok-instrs.rest.now
    (λ i. omega (arith, c.type_inv.bytes i)) c.from.ensures c.in_ok-width.ensures
    c.in_ok-name.ensures.name c.in_ok-vars.ensures c.in_ok-results.ensures
    c.in_ok-instrs.ensures

pub returns : goal.returns
returns c =
    let left : drop c.in_ok-width.width c.in_ok-width.rest.now
    ≡ take (length c.in_ok-width.rest.now - c.from.result)
    (drop c.from.result c.in_ok-width.rest.now) =
    ap (λ (m : ℕ). drop m c.in_ok-width.rest.now) (sym c.from.ensures)
    ∙ sym (to_the_end c.in_ok-width.rest.now c.from.result) in
    rw c.of.ensures
    (whole c.args.bytes.now c.in_ok-width.width c.in_ok-width.rest.now
    c.in_ok-name.name (drop c.in_ok-width.width c.in_ok-width.rest.now) c.in_ok-vars.vars
    c.in_ok-vars.rest.now c.in_ok-results.results c.in_ok-results.rest.now c.in_ok-instrs.instrs c.in_ok-instrs.rest.now
    c.in_ok-width.ensures c.in_ok-name.ensures.name (ap (sizes_at 24) left ∙ c.in_ok-vars.ensures) c.in_ok-results.ensures
    c.in_ok-instrs.ensures)
