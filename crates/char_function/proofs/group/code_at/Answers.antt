use Rattle.std.proofs.Common.{◌≡◌, ◌∙◌, ◌-◌, ◌<◌, [], ℕ, List, length, get_or, slice_get, slice_index, Some, sym, ap, subst, arith, length-append}
use Rattle.char_function.specs.inner.Points.{at_point, point, points}
use Rattle.domains.specs.AllCodes.{all_codes}
use Rattle.transition_table.specs.declared.machine.Machine.{Machine}
use Rattle.outcome_table.specs.declared.table.Table.{Table}
use Rattle.outcome_table.specs.Outcomes.{IsTableOf, column}
use Rattle.decision_diagram.proofs.ListItems.{read}
use Rattle.char_function.proofs.IsTableOf.{numbers_long, number_low, outcome_long, var_at, result_at, code_below}
use Rattle.char_function.proofs.group.code_at.Goals as goal
use Rattle.polis_base.proofs.Places.{length_map}

variable_below : (item from long vars columns : ℕ) → from < long → long ≡ vars
    → columns ≡ vars → from < columns
variable_below item from long vars columns low long_is wide = omega arith

pub get-requires : goal.get-requires
get-requires c =
    variable_below c.args.item c.from-item.result c.len-vars.result (length c.args.m.now.vars)
    (length c.args.table.now.codes) c.if-item-vars.true c.len-vars.ensures.len
    c.requires.table.codes.wide

-- a column has a code for each snapshot
column_long : (m : Machine) (t : Table) (v i long : ℕ) (codes : List ℕ) → IsTableOf m t
    → slice_get t.codes v ≡ Some codes → v < long → long ≡ length m.vars
    → i < length (points m) → i < length codes
column_long m t v i long codes table got low vars within =
    let all = all_codes m.vars in
    let same : codes ≡ column v all =
    sym (read t.codes v codes [] got) ∙ table.codes.each v (omega arith) in
    subst (λ (n : ℕ). i < n)
    (length_map (point m) all ∙ sym (length_map (λ (s : List ℕ). slice_index s v) all)
    ∙ ap (λ (xs : List ℕ). length xs) (sym same)) within

pub get-requires-then-item-vars : goal.get-requires-then-item-vars
get-requires-then-item-vars c =
    column_long c.args.m.now c.args.table.now c.from-item.result c.args.i c.len-vars.result
    c.get.result.now c.requires.table c.get.ensures c.if-item-vars.true c.len-vars.ensures.len
    c.requires.snapshot

pub get-requires-else-item-vars : goal.get-requires-else-item-vars
get-requires-else-item-vars c =
    subst (λ (n : ℕ). c.args.i < n)
    (sym (numbers_long c.args.m.now c.args.table.now c.requires.table)) c.requires.snapshot

pub get-requires-else-item-vars-2 : goal.get-requires-else-item-vars-2
get-requires-else-item-vars-2 c =
    let m = c.args.m.now in
    let t = c.args.table.now in
    let n = numbers_long m t c.requires.table in
    let e = read t.numbers c.args.i c.get-else-item-vars.result.now 0
    c.get-else-item-vars.ensures in
    let low = number_low m t c.requires.table c.args.i (let s = c.requires.snapshot in
    omega arith) in
    omega arith

pub get-requires-else-item-vars-3 : goal.get-requires-else-item-vars-3
get-requires-else-item-vars-3 c =
    let m = c.args.m.now in
    let t = c.args.table.now in
    let n = numbers_long m t c.requires.table in
    let e = read t.numbers c.args.i c.get-else-item-vars.result.now 0
    c.get-else-item-vars.ensures in
    let f = read t.outcomes c.get-else-item-vars.result.now c.get-else-item-vars-2.result.now []
    c.get-else-item-vars-2.ensures in
    let long = outcome_long m t c.requires.table c.laws_of_computing.ensures.results_fit c.args.i
    (let s = c.requires.snapshot in omega arith) in
    let same = ap (λ (k : ℕ). length (get_or t.outcomes k [])) e in
    let also = ap (λ (xs : List ℕ). length xs) f in
    let both = length-append m.vars m.results in
    let a = c.from-item.ensures in
    let b = c.len-vars.ensures.len in
    let d = c.requires.item in
    let g = c.if-item-vars.false in
    omega arith

pub returns-then-item-vars-clause-code : goal.returns-then-item-vars-clause-code
returns-then-item-vars-clause-code c =
    let m = c.args.m.now in
    let t = c.args.table.now in
    let item = c.args.item in
    let a = c.from-item.ensures in
    let b = c.len-vars.ensures.len in
    let g = c.if-item-vars.true in
    let e = read t.codes c.from-item.result c.get.result.now [] c.get.ensures in
    let f = read c.get.result.now c.args.i c.get-then-item-vars.result.now 0
    c.get-then-item-vars.ensures in
    sym f
    ∙ ap (λ (xs : List ℕ). slice_index xs c.args.i) (sym e ∙ ap (λ (v : ℕ). get_or t.codes v []) a)
    ∙ var_at m t c.requires.table c.args.i item c.requires.snapshot (omega arith)

pub returns-then-item-vars-clause-below : goal.returns-then-item-vars-clause-below
returns-then-item-vars-clause-below c =
    let m = c.args.m.now in
    let t = c.args.table.now in
    let item = c.args.item in
    let a = c.from-item.ensures in
    let b = c.len-vars.ensures.len in
    let g = c.if-item-vars.true in
    let e = read t.codes c.from-item.result c.get.result.now [] c.get.ensures in
    let f = read c.get.result.now c.args.i c.get-then-item-vars.result.now 0
    c.get-then-item-vars.ensures in
    let same : c.get-then-item-vars.result.now ≡ slice_index (at_point (points m) c.args.i) item =
    sym f
    ∙ ap (λ (xs : List ℕ). slice_index xs c.args.i) (sym e ∙ ap (λ (v : ℕ). get_or t.codes v []) a)
    ∙ var_at m t c.requires.table c.args.i item c.requires.snapshot (omega arith) in
    let low = code_below m t c.requires.table c.laws_of_computing.ensures.results_fit c.args.i item
    c.requires.snapshot c.requires.item in
    omega arith

pub returns-else-item-vars-clause-code : goal.returns-else-item-vars-clause-code
returns-else-item-vars-clause-code c =
    let m = c.args.m.now in
    let t = c.args.table.now in
    let item = c.args.item in
    let a = c.from-item.ensures in
    let b = c.len-vars.ensures.len in
    let g = c.if-item-vars.false in
    let e = read t.numbers c.args.i c.get-else-item-vars.result.now 0
    c.get-else-item-vars.ensures in
    let f = read t.outcomes c.get-else-item-vars.result.now c.get-else-item-vars-2.result.now []
    c.get-else-item-vars-2.ensures in
    let h = read c.get-else-item-vars-2.result.now (c.from-item.result - c.len-vars.result)
    c.get-else-item-vars-3.result.now 0 c.get-else-item-vars-3.ensures in
    let off : c.from-item.result - c.len-vars.result ≡ item - length m.vars = omega arith in
    sym h
    ∙ ap (slice_index c.get-else-item-vars-2.result.now) off
    ∙ ap (λ (xs : List ℕ). slice_index xs (item - length m.vars))
    (sym f ∙ ap (λ (k : ℕ). get_or t.outcomes k []) (sym e))
    ∙ result_at m t c.requires.table c.args.i item c.requires.snapshot (omega arith)

pub returns-else-item-vars-clause-below : goal.returns-else-item-vars-clause-below
returns-else-item-vars-clause-below c =
    let m = c.args.m.now in
    let t = c.args.table.now in
    let item = c.args.item in
    let a = c.from-item.ensures in
    let b = c.len-vars.ensures.len in
    let g = c.if-item-vars.false in
    let e = read t.numbers c.args.i c.get-else-item-vars.result.now 0
    c.get-else-item-vars.ensures in
    let f = read t.outcomes c.get-else-item-vars.result.now c.get-else-item-vars-2.result.now []
    c.get-else-item-vars-2.ensures in
    let h = read c.get-else-item-vars-2.result.now (c.from-item.result - c.len-vars.result)
    c.get-else-item-vars-3.result.now 0 c.get-else-item-vars-3.ensures in
    let off : c.from-item.result - c.len-vars.result ≡ item - length m.vars = omega arith in
    let same : c.get-else-item-vars-3.result.now ≡ slice_index (at_point (points m) c.args.i) item =
    sym h
    ∙ ap (slice_index c.get-else-item-vars-2.result.now) off
    ∙ ap (λ (xs : List ℕ). slice_index xs (item - length m.vars))
    (sym f ∙ ap (λ (k : ℕ). get_or t.outcomes k []) (sym e))
    ∙ result_at m t c.requires.table c.args.i item c.requires.snapshot (omega arith) in
    let low = code_below m t c.requires.table c.laws_of_computing.ensures.results_fit c.args.i item
    c.requires.snapshot c.requires.item in
    omega arith
