use Rattle.std.proofs.Common.{◌≡◌, ◌∙◌, ◌*◌, ◌<◌, length, drop, slice_index, arith, ap, sym}
use Rattle.std.proofs.lemmas.Option.{get_or_from_slice_get}
use Rattle.domains.specs.Tables.{product}
use Rattle.outcome_table.proofs.Columns.{product_here, product_later}
use Rattle.outcome_table.proofs.column.+lists_from.Goals as goal

pub lists_from-requires : goal.lists_from-requires
lists_from-requires t c =
    let low : c.args.from < length c.args.vars.now = let a = c.requires.from in
    let b = c.if-from-len.false in let l = c.len.ensures.len in omega arith in
    let later = product_later c.args.vars.now c.args.from c.len.ensures.sizes low in
    let few = c.requires.few in
    let d = c.decreases in
    (omega arith, (omega arith, omega arith))

pub overflow_mul-result : goal.overflow_mul-result
overflow_mul-result t c =
    let low : c.args.from < length c.args.vars.now = let a = c.requires.from in
    let b = c.if-from-len.false in let l = c.len.ensures.len in omega arith in
    let size : slice_index c.args.vars.now c.args.from ≡ c.from.result =
    get_or_from_slice_get c.args.vars.now c.args.from c.get.result.now 0 c.get.ensures
    ∙ sym c.from.ensures in
    let here = product_here c.args.vars.now c.args.from c.from.result low size in
    let few = c.requires.few in
    let rest = c.lists_from.ensures in
    let same : c.from.result * c.lists_from.result ≡ product (drop c.args.from c.args.vars.now) =
    ap (λ n. c.from.result * n) rest ∙ sym here in
    omega arith

pub returns : goal.returns
returns t c =
    let low : c.args.from < length c.args.vars.now = let a = c.requires.from in
    let b = c.if-from-len.false in let l = c.len.ensures.len in omega arith in
    let size : slice_index c.args.vars.now c.args.from ≡ c.from.result =
    get_or_from_slice_get c.args.vars.now c.args.from c.get.result.now 0 c.get.ensures
    ∙ sym c.from.ensures in
    ap (λ n. c.from.result * n) c.lists_from.ensures
    ∙ sym (product_here c.args.vars.now c.args.from c.from.result low size)
