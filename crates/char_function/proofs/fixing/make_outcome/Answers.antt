use Rattle.std.proofs.Common.{◌≡◌, ◌∙◌, ℕ, List, length, sym, subst, arith}
use Rattle.decision_diagram.specs.Diagrams.{Means}
use Rattle.char_function.specs.inner.Known.{OnlyResults}
use Rattle.char_function.specs.inner.Left.{AreLeft, IsOrdered, left_from}
use Rattle.char_function.proofs.FixedKids.{left_kept, left_more}
use Rattle.decision_diagram.proofs.ListItems.{read}
use Rattle.char_function.proofs.IsTableOf.{numbers_long, number_low}
use Rattle.char_function.proofs.fixing.make_outcome.Goals as goal

pub set-requires : goal.set-requires
set-requires c =
    let m = c.args.fixing.now.machine.now in
    let t = c.args.fixing.now.table.now in
    let tabled = c.requires.fixing.table in
    let a = numbers_long m t tabled in
    let s = c.requires.snapshot in
    let b = number_low m t tabled c.args.i (omega arith) in
    let e = read t.numbers c.args.i c.get-number.result.now 0 c.get-number.ensures in
    let l = c.requires.store.known.long in
    omega arith

pub returns-clause-known : goal.returns-clause-known
returns-clause-known c =
    let m = c.args.fixing.now.machine.now in
    let t = c.args.fixing.now.table.now in
    let f = c.requires.fixing in
    let new = c.results_node.new.store in
    let start = c.args.fixing.now.start in
    let kept = c.results_node.ensures.kept in
    let same : new.order ≡ c.args.fixing.now.order.now = kept.order ∙ c.requires.store.order in
    let node = c.in_ok-node.node in
    let e = read t.numbers c.args.i c.get-number.result.now 0 c.get-number.ensures in
    let known = left_kept m t c.args.store.now new start c.args.known.now kept c.requires.store.known in
    subst (AreLeft m t new start) (sym c.set.ensures)
    (left_more c.laws_of_computing.ensures.results_fit m t f.table new
    (subst (IsOrdered m) (sym same) f.ordered) (kept.sizes ∙ c.requires.store.sizes ∙ f.all_sizes) start
    (subst (λ (order : List ℕ). OnlyResults (length m.vars) order start) (sym same) f.results)
    c.args.known.now c.get-number.result.now c.args.i node known (sym e) c.requires.snapshot
    (subst (λ (order : List ℕ). Means new node (left_from m order start c.args.i)) (sym same)
    c.in_ok-node.ensures.value) c.in_ok-node.ensures.level)
