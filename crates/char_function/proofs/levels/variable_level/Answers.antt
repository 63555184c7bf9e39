use Rattle.std.proofs.Common.{◌≡◌, ◌∙◌, ◌+◌, ◌*◌, ◌/◌, ◌<◌, ◌≤◌, ℕ, List, length, take, slice_index, ap, sym, subst, arith}
use Rattle.std.specs.Prelude.{slice_range}
use Rattle.char_function.proofs.Below.{item_below, block_below}
use Rattle.domains.specs.Orders.{place}
use Rattle.domains.specs.Tables.{product}
use Rattle.char_function.specs.inner.Rising.{AreLevel}
use Rattle.char_function.proofs.Blocks.{AreBlockKids, AreHalf, IsBlockStep, block_kids, block_left, block_step, half_more, half_none, times_le, variable_done}
use Rattle.decision_diagram.proofs.Growth.{keeps_trans, keeps_same}
use Rattle.char_function.proofs.levels.variable_level.Goals.{After-deref, After-from-size, In-loop-j}
use Rattle.char_function.proofs.levels.variable_level.Goals as goal

-- the level's variable
step_here : (c : After-from-size)
    → IsBlockStep c.args.fixing.now.machine.now c.args.fixing.now.order.now c.args.place
    c.get-item.result.now c.from-size.result c.args.block c.args.nodes.now.items
step_here c =
    let f = c.requires.fixing in
    let s = c.args.store.now in
    block_step c.args.fixing.now.machine.now c.args.fixing.now.order.now
    c.args.fixing.now.sizes.now s.sizes s c.args.place c.get-item.result.now c.from.result
    c.get.result.now c.from-size.result c.args.block c.args.nodes.now.items f.ordered f.all_sizes
    c.requires.store.sizes c.same_value_same_node.ensures.reduced.sizes c.requires.rising
    c.requires.place c.requires.item c.get-item.ensures c.from.ensures c.get.ensures
    c.from-size.ensures c.requires.level

-- a block's nodes
kids_here : (c : After-deref)
    → AreBlockKids c.args.fixing.now.machine.now c.args.fixing.now.order.now c.loop-j.store
    c.args.place c.args.block c.from-size.result c.loop-j.j c.loop-j.nodes.items
    (slice_range c.deref.result.now (c.loop-j.j * c.from-size.result)
    (c.loop-j.j * c.from-size.result + c.from-size.result))
kids_here c =
    let size = c.from-size.result in
    block_kids c.args.fixing.now.machine.now c.args.fixing.now.order.now c.loop-j.store
    c.args.place (size * c.args.block) c.args.block size c.loop-j.nodes.items c.deref.result.now
    c.loop-j.j (c.len.result / size) c.loop-j.invariant.half c.deref.ensures.value
    c.loop-j-test.true

-- the end of a block
block_within : (j count size n : ℕ) → j < count → n ≡ count * size → j * size + size ≤ n
block_within j count size n low long =
    let most = times_le (j + 1) count size (omega arith) in
    omega arith

within_here : (c : In-loop-j)
    → c.loop-j.j * c.from-size.result + c.from-size.result ≤ length c.loop-j.nodes.items
within_here c =
    block_within c.loop-j.j (c.len.result / c.from-size.result) c.from-size.result
    (length c.loop-j.nodes.items) c.loop-j-test.true c.loop-j.invariant.half.long

pub get-requires : goal.get-requires
get-requires c =
    item_below c.args.fixing.now.order.now c.args.fixing.now.sizes.now c.args.place
    c.get-item.result.now c.from.result c.requires.fixing.ordered c.requires.fixing.all_sizes
    c.requires.place c.get-item.ensures c.from.ensures

pub nonzero_div-count : goal.nonzero_div-count
nonzero_div-count c =
    let b = step_here (goal.at.nonzero_div-count c).After-from-size in
    let one = b.one in
    omega arith

pub loop-j-init : goal.loop-j-init
loop-j-init c =
    let m = c.args.fixing.now.machine.now in
    let order = c.args.fixing.now.order.now in
    let p = c.args.place in
    let stride = c.args.block in
    let size = c.from-size.result in
    let s0 = c.args.store.now in
    let b = step_here (goal.at.loop-j-init c).After-from-size in
    let long : length c.args.nodes.now.items ≡ c.len.result / size * size =
    b.whole ∙ ap (λ (k : ℕ). k / size * size) (sym (c.len.ensures ∙ c.args.nodes.now.ok.0)) in
    record {
      kept = keeps_same s0;
      half = half_none m order s0 p (size * stride) stride size c.args.nodes.now.items
          (c.len.result / size) c.requires.level long;
    }

pub node-requires-clause-var : goal.node-requires-clause-var
node-requires-clause-var c =
    let f = c.requires.fixing in
    let b = step_here (goal.at.node-requires-clause-var c).After-from-size in
    let s = c.loop-j.store in
    let part = c.loop-j.invariant in
    let j = c.loop-j.j in
    let low = c.loop-j-test.true in
    let inside = b.step.at.inside in
    let e = ap (λ (xs : List ℕ). length xs)
    (part.kept.sizes ∙ c.requires.store.sizes ∙ f.all_sizes) in
    omega arith

pub node-requires-clause-kids : goal.node-requires-clause-kids
node-requires-clause-kids c =
    let f = c.requires.fixing in
    let item = c.get-item.result.now in
    let b = step_here (goal.at.node-requires-clause-kids c).After-from-size in
    let s = c.loop-j.store in
    let part = c.loop-j.invariant in
    let j = c.loop-j.j in
    let low = c.loop-j-test.true in
    let kids = kids_here (goal.at.node-requires-clause-kids c).After-deref in
    kids.long ∙ b.step.sized
    ∙ ap (λ (xs : List ℕ). slice_index xs item)
    (sym (part.kept.sizes ∙ c.requires.store.sizes ∙ f.all_sizes))

pub node-requires-clause-nodes : goal.node-requires-clause-nodes
node-requires-clause-nodes c code code_low =
    let s = c.loop-j.store in
    let part = c.loop-j.invariant in
    let j = c.loop-j.j in
    let low = c.loop-j-test.true in
    let kids = kids_here (goal.at.node-requires-clause-nodes c).After-deref in
    let long = kids.long in
    (kids.each code (omega arith)).means.node

pub node-requires-clause-later : goal.node-requires-clause-later
node-requires-clause-later c code code_low =
    let order = c.args.fixing.now.order.now in
    let item = c.get-item.result.now in
    let b = step_here (goal.at.node-requires-clause-later c).After-from-size in
    let s = c.loop-j.store in
    let part = c.loop-j.invariant in
    let j = c.loop-j.j in
    let low = c.loop-j-test.true in
    let kids = kids_here (goal.at.node-requires-clause-later c).After-deref in
    let long = kids.long in
    let level = (kids.each code (omega arith)).level in
    let placed = b.step.at.placed in
    let e : place s.order item ≡ place order item =
    ap (λ (xs : List ℕ). place xs item) (part.kept.order ∙ c.requires.store.order) in
    omega arith

pub returns-in_err-node-clause-kept : goal.returns-in_err-node-clause-kept
returns-in_err-node-clause-kept c =
    keeps_trans c.args.store.now c.loop-j.store c.node.new.self c.loop-j.invariant.kept
    c.node.ensures.kept

pub loop-j-preserved : goal.loop-j-preserved
loop-j-preserved c =
    let m = c.args.fixing.now.machine.now in
    let order = c.args.fixing.now.order.now in
    let f = c.requires.fixing in
    let p = c.args.place in
    let stride = c.args.block in
    let item = c.get-item.result.now in
    let size = c.from-size.result in
    let s0 = c.args.store.now in
    let b = step_here (goal.at.loop-j-preserved c).After-from-size in
    let s = c.loop-j.store in
    let part = c.loop-j.invariant in
    let j = c.loop-j.j in
    let low = c.loop-j-test.true in
    let kids = kids_here (goal.at.loop-j-preserved c).After-deref in
    let n = c.in_ok-node.node in
    let new = c.node.new.self in
    let placed = b.step.at.placed in
    let e : place s.order item ≡ place order item =
    ap (λ (xs : List ℕ). place xs item) (part.kept.order ∙ c.requires.store.order) in
    let level = c.in_ok-node.ensures.level in
    record {
      kept = keeps_trans s0 s new part.kept c.node.ensures.kept;
      half = half_more m order s new p (size * stride) stride size c.loop-j.nodes.items j
          (c.len.result / size) n part.half c.node.ensures.kept b.one low
          (block_left c.laws_of_all_codes.ensures.stands_once
          c.laws_of_computing.ensures.same_on_support m order f.ordered s new p item size j stride n
          c.loop-j.nodes.items _ b.step b.inside b.one b.apart b.so_far
          (part.kept.sizes ∙ c.requires.store.sizes ∙ f.all_sizes) c.node.ensures.kept.sizes kids
          c.in_ok-node.ensures.value (omega arith));
    }

pub returns-clause-kept : goal.returns-clause-kept
returns-clause-kept c =
    c.loop-j.invariant.kept

pub returns-clause-level : goal.returns-clause-level
returns-clause-level c =
    let m = c.args.fixing.now.machine.now in
    let order = c.args.fixing.now.order.now in
    let f = c.requires.fixing in
    let p = c.args.place in
    let stride = c.args.block in
    let item = c.get-item.result.now in
    let size = c.from-size.result in
    let b = step_here (goal.at.returns-clause-level c).After-from-size in
    let part = c.loop-j.invariant in
    let count : ℕ = c.len.result / size in
    let done : c.loop-j.j ≡ count = let a = c.loop-j-test.false in
    let e = c.loop-j.auto.j-end in omega arith in
    let is : count ≡ product (take item m.vars) =
    ap (λ (k : ℕ). k / size) (c.len.ensures ∙ c.args.nodes.now.ok.0) ∙ b.count in
    let wide : size ≡ slice_index c.args.fixing.now.sizes.now (slice_index order p) =
    b.step.sized
    ∙ ap (λ (xs : List ℕ). slice_index xs item) (sym f.all_sizes)
    ∙ ap (slice_index c.args.fixing.now.sizes.now) (sym b.step.at.is) in
    let level = variable_done m order c.loop-j.store p item size stride c.loop-j.nodes.items count
    c.requires.rising b.step b.inside b.one b.apart is
    (subst (λ (k : ℕ). AreHalf m order c.loop-j.store p (size * stride) stride size
    c.loop-j.nodes.items k count) done part.half) in
    subst (λ (k : ℕ). AreLevel m order c.loop-j.store p (k * stride) c.truncate.new.self.items) wide
    (subst (λ (xs : List ℕ). AreLevel m order c.loop-j.store p (size * stride) xs)
    (sym c.truncate.ensures.items) level)

pub overflow_mul-from : goal.overflow_mul-from
overflow_mul-from c =
    let within = within_here (goal.at.overflow_mul-from c).In-loop-j in
    let small = c.loop-j.nodes.small in
    let held = c.loop-j.nodes.ok in
    omega arith

pub overflow_add-from : goal.overflow_add-from
overflow_add-from c =
    let within = within_here (goal.at.overflow_add-from c).In-loop-j in
    let small = c.loop-j.nodes.small in
    let held = c.loop-j.nodes.ok in
    omega arith

pub offset_bounds-deref-from : goal.offset_bounds-deref-from
offset_bounds-deref-from c =
    let within = within_here (goal.at.offset_bounds-deref-from c).In-loop-j in
    let small = c.loop-j.nodes.small in
    let held = c.loop-j.nodes.ok in
    let long = c.deref.ensures.len in
    let fits = c.deref.type_inv in
    omega arith

pub slice_bounds-node-end : goal.slice_bounds-node-end
slice_bounds-node-end c =
    subst (λ (xs : List ℕ). c.loop-j.j * c.from-size.result + c.from-size.result ≤ length xs)
    (sym c.deref.ensures.value) (within_here (goal.at.slice_bounds-node-end c).In-loop-j)

pub slice_bounds-node-count : goal.slice_bounds-node-count
slice_bounds-node-count c = omega arith

pub slice_bounds-node-start : goal.slice_bounds-node-start
slice_bounds-node-start c = omega arith

pub index_mut-requires : goal.index_mut-requires
index_mut-requires c =
    subst (λ (k : ℕ). c.loop-j.j < k) (sym c.loop-j.nodes.ok.0)
    (block_below c.loop-j.j c.from-size.result (length c.loop-j.nodes.items)
    (step_here (goal.at.index_mut-requires c).After-from-size).one
    (within_here (goal.at.index_mut-requires c).In-loop-j))
