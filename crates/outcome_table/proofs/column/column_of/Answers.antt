use Rattle.std.proofs.Common.{◌≡◌, ◌∙◌, ◌*◌, ◌/◌, ◌-◌, ℕ, List, flat_map, length, take, drop, true, arith, ap, sym}
use Rattle.polis_base.specs.Lists.{upto}
use Rattle.domains.specs.AllCodes.{all_codes}
use Rattle.domains.specs.Tables.{are_sizes, product}
use Rattle.outcome_table.specs.Outcomes.{column}
use Rattle.outcome_table.proofs.Columns.{column_long, column_pieces, product_some, product_split, product_times}
use Rattle.outcome_table.proofs.column.column_of.Goals as goal
use Rattle.domains.proofs.FittingCodes.{product_after}

pub column_from-requires-clause-few : goal.column_from-requires-clause-few
column_from-requires-clause-few c =
    let few = c.requires.few in
    let less = product_after c.args.vars.now c.piece_from-from.result c.len.ensures.sizes in
    omega arith

pub lists_from-requires-2-clause-few : goal.lists_from-requires-2-clause-few
lists_from-requires-2-clause-few c =
    let few = c.requires.few in
    let less = product_after c.args.vars.now c.piece_from-from.result c.len.ensures.sizes in
    omega arith

pub nonzero_div-times : goal.nonzero_div-times
nonzero_div-times c =
    let is = c.lists_from-2.ensures in
    let some = product_some c.args.vars.now c.piece_from-from.result c.len.ensures.sizes in
    omega arith

-- how often the piece stands in the column
times_is : (vars : List ℕ) (from all later : ℕ) → are_sizes vars ≡ true → all ≡ product vars
    → later ≡ product (drop from vars) → all / later ≡ product (take from vars)
times_is vars from all later sizes whole rest =
    ap (λ n. n / later) whole ∙ ap (λ n. product vars / n) rest ∙ product_times vars from sizes

pub repeated-requires : goal.repeated-requires
repeated-requires c =
    let vars = c.args.vars.now in
    let from : ℕ = c.piece_from-from.result in
    let times : ℕ = c.lists_from.result / c.lists_from-2.result in
    let is : times ≡ product (take from vars) =
    times_is vars from c.lists_from.result c.lists_from-2.result c.len.ensures.sizes
    c.lists_from.ensures c.lists_from-2.ensures in
    let long : length c.deref.result.now ≡ product (drop from vars) =
    ap (λ (xs : List ℕ). length xs) (c.deref.ensures.value ∙ c.in_ok-piece.ensures)
    ∙ column_long (c.args.v - from) (drop from vars) in
    let whole : times * length c.deref.result.now ≡ product vars =
    ap (λ n. n * length c.deref.result.now) is ∙ ap (λ n. product (take from vars) * n) long
    ∙ product_split vars from in
    let few = c.requires.few in
    omega arith

pub returns : goal.returns
returns c =
    let vars = c.args.vars.now in
    let from : ℕ = c.piece_from-from.result in
    let times : ℕ = c.lists_from.result / c.lists_from-2.result in
    let is : times ≡ product (take from vars) =
    times_is vars from c.lists_from.result c.lists_from-2.result c.len.ensures.sizes
    c.lists_from.ensures c.lists_from-2.ensures in
    c.in_ok-made.ensures
    ∙ ap (λ (xs : List ℕ). flat_map (λ (k : ℕ). xs) (upto times))
    (c.deref.ensures.value ∙ c.in_ok-piece.ensures)
    ∙ ap (λ (n : ℕ). flat_map
    (λ (k : ℕ). column (c.args.v - from) (all_codes (drop from vars))) (upto n)) is
    ∙ sym (column_pieces vars from c.args.v c.piece_from-from.ensures c.requires.var)
