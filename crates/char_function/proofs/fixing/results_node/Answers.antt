use Rattle.std.proofs.Common.{◌≡◌, ◌∙◌, ◌+◌, ◌-◌, ◌≤◌, ℕ, List, length, slice_index, ap, sym, subst, arith}
use Rattle.domains.specs.Orders.{place}
use Rattle.decision_diagram.specs.Diagrams.{Means}
use Rattle.transition_table.specs.Orders.{sizes_of}
use Rattle.char_function.specs.inner.Left.{left_from}
use Rattle.decision_diagram.proofs.Fits.{size_few}
use Rattle.char_function.proofs.FixedKids.{item_of, result_left, true_left}
use Rattle.decision_diagram.proofs.ListItems.{read}
use Rattle.decision_diagram.proofs.Growth.{keeps_trans, keeps_same}
use Rattle.char_function.proofs.fixing.results_node.Goals as goal

pub loop-place-init : goal.loop-place-init
loop-place-init c =
    let f = c.requires.fixing in
    let order = c.args.fixing.now.order.now in
    let end : c.len-place.result ≡ length order = c.len-place.ensures.len in
    let within = f.within in
    let same = ap (λ (xs : List ℕ). length xs) c.requires.store.order in
    let level = c.constant-node.ensures.level in
    record {
      kept = keeps_same c.args.store.now;
      within = omega arith;
      above = omega arith;
      means = true_left c.laws_of_computing.ensures.results_fit c.args.fixing.now.machine.now order
          f.ordered c.args.store.now c.constant-node.result c.len-place.result c.args.i end
          c.requires.snapshot (c.requires.store.sizes ∙ f.all_sizes) c.constant-node.ensures.node
          c.constant-node.ensures.value;
      level = omega arith;
    }

pub get-size-requires : goal.get-size-requires
get-size-requires c =
    let f = c.requires.fixing in
    let within = c.loop-place.invariant.within in
    let test = c.loop-place-test.true in
    let at = item_of c.args.fixing.now.machine.now c.args.fixing.now.order.now
    (c.loop-place.place - 1) c.get-item.result.now f.ordered (omega arith) c.get-item.ensures in
    let inside = at.inside in
    let same = ap (λ (xs : List ℕ). length xs) f.all_sizes in
    let e = c.from.ensures in
    omega arith

pub code_at-code-requires-clause-item : goal.code_at-code-requires-clause-item
code_at-code-requires-clause-item c =
    let f = c.requires.fixing in
    let within = c.loop-place.invariant.within in
    let test = c.loop-place-test.true in
    (item_of c.args.fixing.now.machine.now c.args.fixing.now.order.now (c.loop-place.place - 1)
    c.get-item.result.now f.ordered (omega arith) c.get-item.ensures).inside

pub result_node-requires-clause-size : goal.result_node-requires-clause-size
result_node-requires-clause-size c =
    sym (read c.args.fixing.now.sizes.now c.from.result c.get-size.result.now 0 c.get-size.ensures)
    ∙ ap (slice_index c.args.fixing.now.sizes.now) c.from.ensures
    ∙ ap (λ (xs : List ℕ). slice_index xs c.get-item.result.now)
    (sym (c.loop-place.invariant.kept.sizes ∙ c.requires.store.sizes))

pub result_node-requires-clause-few : goal.result_node-requires-clause-few
result_node-requires-clause-few c =
    let f = c.requires.fixing in
    let within = c.loop-place.invariant.within in
    let test = c.loop-place-test.true in
    let at = item_of c.args.fixing.now.machine.now c.args.fixing.now.order.now
    (c.loop-place.place - 1) c.get-item.result.now f.ordered (omega arith) c.get-item.ensures in
    let inside = at.inside in
    let same = ap (λ (xs : List ℕ). length xs) (c.requires.store.sizes ∙ f.all_sizes) in
    let item = c.get-item.result.now in
    let s = c.args.store.now in
    let few = size_few s.sizes c.same_value_same_node.ensures.reduced.sizes item (omega arith) in
    let e : c.get-size.result.now ≡ slice_index s.sizes item =
    sym (read c.args.fixing.now.sizes.now c.from.result c.get-size.result.now 0 c.get-size.ensures)
    ∙ ap (slice_index c.args.fixing.now.sizes.now) c.from.ensures
    ∙ ap (λ (xs : List ℕ). slice_index xs item) (sym c.requires.store.sizes) in
    omega arith

pub result_node-requires-clause-code : goal.result_node-requires-clause-code
result_node-requires-clause-code c =
    let f = c.requires.fixing in
    let item = c.get-item.result.now in
    let below = c.code_at-code.ensures.below in
    let e : c.get-size.result.now ≡ slice_index (sizes_of c.args.fixing.now.machine.now) item =
    sym (read c.args.fixing.now.sizes.now c.from.result c.get-size.result.now 0 c.get-size.ensures)
    ∙ ap (slice_index c.args.fixing.now.sizes.now) c.from.ensures
    ∙ ap (λ (xs : List ℕ). slice_index xs item) f.all_sizes in
    omega arith

pub result_node-requires-clause-later : goal.result_node-requires-clause-later
result_node-requires-clause-later c =
    let f = c.requires.fixing in
    let within = c.loop-place.invariant.within in
    let test = c.loop-place-test.true in
    let item = c.get-item.result.now in
    let at = item_of c.args.fixing.now.machine.now c.args.fixing.now.order.now
    (c.loop-place.place - 1) item f.ordered (omega arith) c.get-item.ensures in
    let placed = at.placed in
    let e : place c.loop-place.store.order item ≡ place c.args.fixing.now.order.now item =
    ap (λ (xs : List ℕ). place xs item)
    (c.loop-place.invariant.kept.order ∙ c.requires.store.order) in
    let level = c.loop-place.invariant.level in
    omega arith

pub returns-in_err-node-clause-kept : goal.returns-in_err-node-clause-kept
returns-in_err-node-clause-kept c =
    keeps_trans c.args.store.now c.loop-place.store c.result_node.new.store
    c.loop-place.invariant.kept c.result_node.ensures.kept

pub loop-place-preserved : goal.loop-place-preserved
loop-place-preserved c =
    let m = c.args.fixing.now.machine.now in
    let order = c.args.fixing.now.order.now in
    let f = c.requires.fixing in
    let within = c.loop-place.invariant.within in
    let above = c.loop-place.invariant.above in
    let test = c.loop-place-test.true in
    let item = c.get-item.result.now in
    let p : ℕ = c.loop-place.place - 1 in
    let at = item_of m order p item f.ordered (omega arith) c.get-item.ensures in
    let placed = at.placed in
    let more : c.loop-place.place ≡ p + 1 = omega arith in
    let high : length m.vars ≤ item = let r = f.results p (omega arith) at.low in
    let e = at.is in omega arith in
    let e : place c.loop-place.store.order item ≡ place order item =
    ap (λ (xs : List ℕ). place xs item)
    (c.loop-place.invariant.kept.order ∙ c.requires.store.order) in
    let level = c.in_ok-node.ensures.level in
    record {
      kept = keeps_trans c.args.store.now c.loop-place.store c.result_node.new.store
          c.loop-place.invariant.kept c.result_node.ensures.kept;
      within = omega arith;
      above = omega arith;
      means = result_left c.laws_of_computing.ensures.results_fit
          c.laws_of_computing.ensures.same_on_support m order f.ordered c.loop-place.store
          c.result_node.new.store p item c.code_at-code.result c.args.i c.loop-place.node
          c.in_ok-node.node at high c.requires.snapshot c.code_at-code.ensures.code
          (c.loop-place.invariant.kept.sizes ∙ c.requires.store.sizes ∙ f.all_sizes)
          c.result_node.ensures.kept.sizes
          (subst (λ (k : ℕ). Means c.loop-place.store c.loop-place.node
          (left_from m order k c.args.i)) more c.loop-place.invariant.means)
          c.in_ok-node.ensures.value;
      level = omega arith;
    }

pub returns-clause-value : goal.returns-clause-value
returns-clause-value c =
    let m = c.args.fixing.now.machine.now in
    let order = c.args.fixing.now.order.now in
    let above = c.loop-place.invariant.above in
    let test = c.loop-place-test.false in
    let e : c.loop-place.place ≡ c.args.fixing.now.start = omega arith in
    subst (λ (k : ℕ). Means c.loop-place.store c.loop-place.node (left_from m order k c.args.i)) e
    c.loop-place.invariant.means
