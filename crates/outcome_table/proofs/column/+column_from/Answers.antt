use Rattle.std.proofs.Common.{◌≡◌, ◌∙◌, ◌+◌, ◌-◌, ◌*◌, ◌<◌, ℕ, List, length, drop, flat_map, replicate, slice_index, arith, ap, sym}
use Rattle.std.proofs.lemmas.Option.{get_or_from_slice_get}
use Rattle.polis_base.specs.Lists.{upto}
use Rattle.domains.specs.AllCodes.{all_codes}
use Rattle.domains.specs.Tables.{product}
use Rattle.outcome_table.specs.Outcomes.{column}
use Rattle.outcome_table.proofs.Columns.{column_first, column_later, column_long, product_here, product_later}
use Rattle.outcome_table.proofs.column.+column_from.Goals as goal

pub overflow_add-from : goal.overflow_add-from
overflow_add-from t c =
    let a = c.requires.from in
    let b = c.requires.var in
    let l = c.len.ensures.len in
    let m = c.len.type_inv in
    omega arith

pub lists_from-requires-clause-few : goal.lists_from-requires-clause-few
lists_from-requires-clause-few t c =
    let few = c.requires.few in
    let later = product_later c.args.vars.now c.args.from c.len.ensures.sizes
    (let a = c.requires.from in let b = c.requires.var in omega arith) in
    omega arith

pub blocks-requires : goal.blocks-requires
blocks-requires t c =
    let vars = c.args.vars.now in
    let size : slice_index vars c.args.from ≡ c.get-size.result.now =
    get_or_from_slice_get vars c.args.from c.get-size.result.now 0 c.get-size.ensures in
    let few = c.requires.few in
    let here : product (drop c.args.from vars) ≡ c.get-size.result.now * c.lists_from.result =
    product_here vars c.args.from c.get-size.result.now
    (let a = c.requires.from in let b = c.requires.var in omega arith) size
    ∙ ap (λ n. c.get-size.result.now * n) (sym c.lists_from.ensures) in
    omega arith

pub returns-then-from-v : goal.returns-then-from-v
returns-then-from-v t c =
    let vars = c.args.vars.now in
    let size : c.get-size.result.now ≡ slice_index vars c.args.from =
    sym (get_or_from_slice_get vars c.args.from c.get-size.result.now 0 c.get-size.ensures) in
    c.in_ok-made.ensures
    ∙ ap (λ (n : ℕ). flat_map (λ k. replicate n k) (upto c.get-size.result.now))
    c.lists_from.ensures
    ∙ ap (λ (n : ℕ). flat_map (λ k. replicate (product (drop (c.args.from + 1) vars)) k) (upto n))
    size
    ∙ sym (column_first vars c.args.from c.args.v c.if-from-v.true c.requires.var)

pub column_from-requires : goal.column_from-requires
column_from-requires t c =
    let a = c.requires.from in
    let b = c.requires.var in
    let e = c.if-from-v.false in
    let few = c.requires.few in
    let later = product_later c.args.vars.now c.args.from c.len.ensures.sizes (omega arith) in
    let d = c.decreases in
    (omega arith, (omega arith, (omega arith, omega arith)))

pub repeated-requires : goal.repeated-requires
repeated-requires t c =
    let vars = c.args.vars.now in
    let size : slice_index vars c.args.from ≡ c.from.result =
    get_or_from_slice_get vars c.args.from c.get-size.result.now 0 c.get-size.ensures
    ∙ sym c.from.ensures in
    let few = c.requires.few in
    let long : length c.deref.result.now ≡ product (drop (c.args.from + 1) vars) =
    ap (λ (xs : List ℕ). length xs) (c.deref.ensures.value ∙ c.in_ok-later.ensures)
    ∙ column_long (c.args.v - (c.args.from + 1)) (drop (c.args.from + 1) vars) in
    let here : product (drop c.args.from vars) ≡ c.from.result * length c.deref.result.now =
    product_here vars c.args.from c.from.result
    (let a = c.requires.from in let b = c.requires.var in omega arith) size
    ∙ ap (λ n. c.from.result * n) (sym long) in
    omega arith

pub returns : goal.returns
returns t c =
    let vars = c.args.vars.now in
    let size : c.from.result ≡ slice_index vars c.args.from =
    c.from.ensures
    ∙ sym (get_or_from_slice_get vars c.args.from c.get-size.result.now 0 c.get-size.ensures) in
    let less : c.args.from < c.args.v = let a = c.requires.from in let e = c.if-from-v.false in
    omega arith in
    c.in_ok-made-2.ensures
    ∙ ap (λ (xs : List ℕ). flat_map (λ (k : ℕ). xs) (upto c.from.result))
    (c.deref.ensures.value ∙ c.in_ok-later.ensures)
    ∙ ap (λ (n : ℕ). flat_map
    (λ (k : ℕ). column (c.args.v - (c.args.from + 1)) (all_codes (drop (c.args.from + 1) vars)))
    (upto n)) size
    ∙ sym (column_later vars c.args.from c.args.v less c.requires.var)
