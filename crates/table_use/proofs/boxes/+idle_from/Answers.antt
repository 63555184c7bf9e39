use Rattle.std.proofs.Common.{◌+◌, ◌-◌, Bool, cond, length, drop, sym, ap, ◌∙◌, arith}
use Rattle.table_use.specs.inner.Boxes.{both_allow, passing_idle}
use Rattle.table_use.proofs.BoxCounts.{idle_here, idle_past}
use Rattle.table_use.proofs.boxes.+idle_from.Goals as goal

pub idle_from-requires : goal.idle_from-requires
idle_from-requires t c =
    let a = c.requires.from in
    let b = c.if-from-len.false in
    let l = c.len.ensures in
    let d = c.decreases in
    (omega arith, (c.requires.codes, (c.requires.row, (c.requires.other, omega arith))))

pub returns-then-from-len : goal.returns-then-from-len
returns-then-from-len t c =
    let m = c.args.machine.now in
    let here = c.if-from-len.true in
    let l = c.len.ensures in
    c.passing_from.ensures
    ∙ sym (idle_past (both_allow m c.args.r c.args.k) m.vars (length m.inputs) c.args.from
    (omega arith))

pub returns-then-not-has : goal.returns-then-not-has
returns-then-not-has t c =
    let m = c.args.machine.now in
    let n = length m.inputs in
    let from = c.args.from in
    let test = both_allow m c.args.r c.args.k in
    let a = c.requires.from in
    let b = c.if-from-len.false in
    let l = c.len.ensures in
    let parts = c.var_count.ensures.inputs in
    sym (idle_here test m.vars n from (omega arith) (omega arith)
    ∙ ap (λ (x : Bool). cond x (passing_idle test (n - (from + 1)) (from + 1)
    (drop (from + 1) m.vars)) 0)
    (sym (c.has.ensures ∙ c.codes_of_both-both.ensures 0) ∙ c.if-not-has.true))

pub returns : goal.returns
returns t c =
    let m = c.args.machine.now in
    let n = length m.inputs in
    let from = c.args.from in
    let test = both_allow m c.args.r c.args.k in
    let a = c.requires.from in
    let b = c.if-from-len.false in
    let l = c.len.ensures in
    let parts = c.var_count.ensures.inputs in
    c.idle_from.ensures
    ∙ sym (idle_here test m.vars n from (omega arith) (omega arith)
    ∙ ap (λ (x : Bool). cond x (passing_idle test (n - (from + 1)) (from + 1)
    (drop (from + 1) m.vars)) 0)
    (sym (c.has.ensures ∙ c.codes_of_both-both.ensures 0) ∙ c.if-not-has.false))
