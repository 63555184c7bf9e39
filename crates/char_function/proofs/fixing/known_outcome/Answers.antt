use Rattle.std.proofs.Common.{◌≡◌, ◌∙◌, ◌≤◌, ℕ, List, None, get_or, slice_index, ap, subst, arith}
use Rattle.decision_diagram.specs.Diagrams.{Means, level_of}
use Rattle.char_function.specs.inner.Left.{left_from}
use Rattle.char_function.proofs.AreKnown.{some_known}
use Rattle.decision_diagram.proofs.ListItems.{read}
use Rattle.char_function.proofs.IsTableOf.{numbers_long, number_low}
use Rattle.char_function.proofs.fixing.known_outcome.Goals as goal

pub get-requires-2 : goal.get-requires-2
get-requires-2 c =
    let m = c.args.fixing.now.machine.now in
    let t = c.args.fixing.now.table.now in
    let tabled = c.requires.fixing.table in
    let a = numbers_long m t tabled in
    let s = c.requires.snapshot in
    let b = number_low m t tabled c.args.i (omega arith) in
    let e = read t.numbers c.args.i c.get.result.now 0 c.get.ensures in
    let l = c.requires.known.long in
    omega arith

pub returns-clause-value : goal.returns-clause-value
returns-clause-value c =
    let m = c.args.fixing.now.machine.now in
    let t = c.args.fixing.now.table.now in
    let s = c.args.store.now in
    let start = c.args.fixing.now.start in
    let e = read t.numbers c.args.i c.get.result.now 0 c.get.ensures in
    let is : get_or c.args.known.now (slice_index t.numbers c.args.i) None ≡ c.get-2.result.now =
    ap (λ (k : ℕ). get_or c.args.known.now k None) e
    ∙ read c.args.known.now c.get.result.now c.get-2.result.now None c.get-2.ensures in
    some_known c.get-2.result.now
    (λ n. Means s n (left_from m c.args.fixing.now.order.now start c.args.i))
    (λ n some. subst (λ (order : List ℕ). Means s n (left_from m order start c.args.i))
    c.requires.order (c.requires.known.means c.args.i n c.requires.snapshot (is ∙ some)))

pub returns-clause-level : goal.returns-clause-level
returns-clause-level c =
    let t = c.args.fixing.now.table.now in
    let s = c.args.store.now in
    let e = read t.numbers c.args.i c.get.result.now 0 c.get.ensures in
    let is : get_or c.args.known.now (slice_index t.numbers c.args.i) None ≡ c.get-2.result.now =
    ap (λ (k : ℕ). get_or c.args.known.now k None) e
    ∙ read c.args.known.now c.get.result.now c.get-2.result.now None c.get-2.ensures in
    some_known c.get-2.result.now (λ n. c.args.fixing.now.start ≤ level_of s n)
    (λ n some. c.requires.known.levels c.args.i n c.requires.snapshot (is ∙ some))
