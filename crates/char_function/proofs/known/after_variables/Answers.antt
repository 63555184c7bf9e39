use Rattle.std.proofs.Common.{◌≡◌, ◌∙◌, ⊎_elim, ◌-◌, slice_index, ap, arith}
use Rattle.std.proofs.lemmas.Bool.{cases_lt}
use Rattle.decision_diagram.proofs.ListItems.{read}
use Rattle.char_function.proofs.known.after_variables.Goals as goal

pub loop-place-init : goal.loop-place-init
loop-place-init c j high low = absurd (let a = c.len-place.ensures.len in omega arith)

pub returns-then-from-vars-clause-results : goal.returns-then-from-vars-clause-results
returns-then-from-vars-clause-results c j high low = c.loop-place.invariant j (omega arith) low

pub loop-place-preserved : goal.loop-place-preserved
loop-place-preserved c j high low =
    ⊎_elim
    (λ here.
    let same : j ≡ c.loop-place.place - 1 = omega arith in
    let e = ap (slice_index c.args.order.now) same
    ∙ read c.args.order.now (c.loop-place.place - 1) c.get.result.now 0 c.get.ensures in
    let f = c.from.ensures in
    let g = c.len-vars.ensures.len in
    let h = c.if-from-vars.false in
    omega arith)
    (λ later. c.loop-place.invariant j later low)
    (cases_lt j c.loop-place.place)
