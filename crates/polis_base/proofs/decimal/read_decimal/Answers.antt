use Rattle.std.proofs.Common.{◌≡◌, ℕ, ◌^◌, ◌<◌, ◌≤◌, List, Option, Some, None, IfSome, IfNone, true, sym, ◌∙◌, ap, arith, rules}
use Rattle.std.specs.Fmt.{decimal}
use Rattle.std.proofs.lemmas.Bool.{false≢true}
use Rattle.polis_base.specs.Digits.{is_plain, number_of}
use Rattle.polis_base.proofs.Digits.{text_of_number, plain_decimal, number_of_decimal}
use Rattle.polis_base.proofs.decimal.read_decimal.Goals as goal

reads : (o : Option ℕ) (text : List ℕ) → is_plain text ≡ true → IfSome o (λ n. n ≡ number_of text)
    → IfSome o (λ n. n ≤ 18446744073709551615) → IfSome o (λ n. text ≡ decimal n)
reads None text plain same fits = search rules
reads (Some n) text plain same fits =
    let number : number_of text < 2 ^ 64 = omega arith in
    rw same (text_of_number text plain number)

fits_none : (o : Option ℕ) (text : List ℕ) → IfNone o (18446744073709551615 < number_of text)
    → IfNone o ((n : ℕ) → n < 2 ^ 64 → text ≡ decimal n → ⊥)
fits_none None text above = λ n fits is.
    let e = ap number_of is ∙ number_of_decimal n fits in
    omega arith
fits_none (Some n) text above = search rules

pub returns-then-is_plain-clause-some : goal.returns-then-is_plain-clause-some
returns-then-is_plain-clause-some c =
    reads c.number_up_to.result c.args.text.now (sym c.is_plain.ensures ∙ c.if-is_plain.true)
    c.number_up_to.ensures.some c.number_up_to.ensures.within

pub returns-then-is_plain-clause-none : goal.returns-then-is_plain-clause-none
returns-then-is_plain-clause-none c =
    fits_none c.number_up_to.result c.args.text.now c.number_up_to.ensures.none

pub returns-else-is_plain-clause-none : goal.returns-else-is_plain-clause-none
returns-else-is_plain-clause-none c = λ n fits is.
    let plain = ap is_plain is ∙ plain_decimal n fits in
    absurd (false≢true (sym c.if-is_plain.false ∙ c.is_plain.ensures ∙ plain))
