use Rattle.std.proofs.Common.{◌≡◌, ◌*◌, ◌<◌, ℕ, length, drop, count_by, slice_index, ◌+◌, sym, ap, ◌∙◌, arith, zero-mul}
use Rattle.polis_base.specs.Lists.{upto}
use Rattle.table_use.specs.inner.Boxes.{both_allow, passing}
use Rattle.table_use.proofs.BoxCounts.{count_both, passing_few, passing_here}
use Rattle.table_use.proofs.boxes.+passing_from.Goals as goal
use Rattle.domains.proofs.FittingCodes.{product_after}
use Rattle.transition_table.proofs.MachineCounts.{few_snapshots}

pub passing_from-requires : goal.passing_from-requires
passing_from-requires t c =
    let a = c.requires.from in
    let b = c.if-from-len.false in
    let l = c.len.ensures.len in
    let d = c.decreases in
    (omega arith, (c.requires.codes, (c.requires.row, (c.requires.other, omega arith))))

pub overflow_mul-result : goal.overflow_mul-result
overflow_mul-result t c =
    let m = c.args.machine.now in
    let from = c.args.from in
    let test = both_allow m c.args.r c.args.k in
    let low : from < length m.vars = let a = c.requires.from in
    let b = c.if-from-len.false in let l = c.len.ensures.len in omega arith in
    let same : c.len-count.result * c.passing_from.result
    ≡ passing test from (drop from m.vars) =
    ap (λ (n : ℕ). n * c.passing_from.result) (count_both m c.args.r c.args.k from
    c.codes_of_both-both.result
    c.len-count.result c.requires.row low c.codes_of_both-both.ensures c.len-count.ensures.members)
    ∙ ap (λ (n : ℕ). count_by (test from) (upto (slice_index m.vars from)) * n)
    c.passing_from.ensures
    ∙ sym (passing_here test m.vars from low) in
    let few = passing_few test from (drop from m.vars) in
    let most = product_after m.vars from c.len.ensures.sizes in
    let small = few_snapshots m in
    omega arith

pub returns : goal.returns
returns t c =
    let m = c.args.machine.now in
    let from = c.args.from in
    let test = both_allow m c.args.r c.args.k in
    let low : from < length m.vars = let a = c.requires.from in
    let b = c.if-from-len.false in let l = c.len.ensures.len in omega arith in
    ap (λ (n : ℕ). n * c.passing_from.result) (count_both m c.args.r c.args.k from
    c.codes_of_both-both.result
    c.len-count.result c.requires.row low c.codes_of_both-both.ensures c.len-count.ensures.members)
    ∙ ap (λ (n : ℕ). count_by (test from) (upto (slice_index m.vars from)) * n)
    c.passing_from.ensures
    ∙ sym (passing_here test m.vars from low)

pub returns-then-count-eq0 : goal.returns-then-count-eq0
returns-then-count-eq0 t c =
    let m = c.args.machine.now in
    let from = c.args.from in
    let test = both_allow m c.args.r c.args.k in
    let low : from < length m.vars = let a = c.requires.from in
    let b = c.if-from-len.false in let l = c.len.ensures.len in omega arith in
    let none : count_by (test from) (upto (slice_index m.vars from)) ≡ 0 =
    sym (count_both m c.args.r c.args.k from c.codes_of_both-both.result
    c.len-count.result c.requires.row low c.codes_of_both-both.ensures c.len-count.ensures.members)
    ∙ c.if-count-eq0.true in
    sym (passing_here test m.vars from low
    ∙ ap (λ (n : ℕ). n * passing test (from + 1) (drop (from + 1) m.vars)) none
    ∙ zero-mul (passing test (from + 1) (drop (from + 1) m.vars)))
