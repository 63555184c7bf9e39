use Rattle.std.proofs.Common.{◌≡◌, ◌-◌, ℕ, length, ap, ◌∙◌, arith}
use Rattle.table_use.specs.inner.Boxes.{both_allow, passing, passing_idle}
use Rattle.table_use.proofs.RowBoxes.{both_rows}
use Rattle.table_use.proofs.boxes.reach_of_both.Goals as goal

pub overflow_sub-result : goal.overflow_sub-result
overflow_sub-result c =
    let m = c.args.machine.now in
    let test = both_allow m c.args.r c.args.k in
    let all : c.passing_from.result ≡ passing test 0 m.vars = c.passing_from.ensures in
    let idle : c.idle_from.result ≡ passing_idle test (length m.inputs) 0 m.vars =
    c.idle_from.ensures
    ∙ (let e : length m.inputs - 0 ≡ length m.inputs = omega arith in
    ap (λ (k : ℕ). passing_idle test k 0 m.vars) e) in
    let parts = both_rows m c.args.r c.args.k c.requires.row c.requires.other in
    omega arith

pub returns : goal.returns
returns c =
    let m = c.args.machine.now in
    let test = both_allow m c.args.r c.args.k in
    let all : c.passing_from.result ≡ passing test 0 m.vars = c.passing_from.ensures in
    let idle : c.idle_from.result ≡ passing_idle test (length m.inputs) 0 m.vars =
    c.idle_from.ensures
    ∙ (let e : length m.inputs - 0 ≡ length m.inputs = omega arith in
    ap (λ (k : ℕ). passing_idle test k 0 m.vars) e) in
    let parts = both_rows m c.args.r c.args.k c.requires.row c.requires.other in
    omega arith
