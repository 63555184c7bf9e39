use Rattle.std.proofs.Common.{◌+◌, refl, get_or, arith}
use Rattle.polis_base.proofs.Digits.{number_more, prefix_least}
use Rattle.polis_base.proofs.decimal.number_up_to.Goals as goal

pub returns-in_err-checked_mul-clause-none : goal.returns-in_err-checked_mul-clause-none
returns-in_err-checked_mul-clause-none c =
    let digits = c.args.digits.now in
    let i = c.loop-digit.digit-index in
    let more =
    number_more digits i c.loop-digit.number (get_or digits i 0) c.loop-digit-test.true
    c.loop-digit.invariant.same refl in
    let least = prefix_least (i + 1) digits in
    rw c.from_residual.ensures (omega (arith, c.in_err-checked_mul.ensures))

pub returns-in_err-number-clause-none : goal.returns-in_err-number-clause-none
returns-in_err-number-clause-none c =
    let digits = c.args.digits.now in
    let i = c.loop-digit.digit-index in
    let more =
    number_more digits i c.loop-digit.number (get_or digits i 0) c.loop-digit-test.true
    c.loop-digit.invariant.same refl in
    let least = prefix_least (i + 1) digits in
    rw c.from_residual-in_err-number.ensures (omega (arith, c.in_err-number.ensures))

pub returns-then-number-max-clause-none : goal.returns-then-number-max-clause-none
returns-then-number-max-clause-none c =
    let digits = c.args.digits.now in
    let i = c.loop-digit.digit-index in
    let more =
    number_more digits i c.loop-digit.number (get_or digits i 0) c.loop-digit-test.true
    c.loop-digit.invariant.same refl in
    let least = prefix_least (i + 1) digits in
    omega (arith, c.in_ok-number.ensures)
