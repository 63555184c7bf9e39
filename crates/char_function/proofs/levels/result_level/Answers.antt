use Rattle.std.proofs.Common.{◌≡◌, ◌∙◌, ◌+◌, ◌*◌, ◌<◌, ℕ, List, length, slice_index, ap, sym, subst, arith}
use Rattle.std.proofs.lemmas.List.{get_or_default}
use Rattle.domains.specs.Orders.{place}
use Rattle.transition_table.specs.declared.machine.Machine.{Machine}
use Rattle.decision_diagram.specs.Diagrams.{Diagrams, IsNode, Means, level_of}
use Rattle.char_function.specs.inner.Left.{left_from}
use Rattle.char_function.specs.inner.Rising.{IsLeft}
use Rattle.char_function.proofs.Below.{item_below}
use Rattle.char_function.proofs.Blocks.{AreHalf, half_more, half_none, result_done}
use Rattle.char_function.proofs.FixedKids.{IsStep, points_few, result_left, step_of}
use Rattle.decision_diagram.proofs.Growth.{keeps_trans, keeps_same}
use Rattle.char_function.proofs.levels.result_level.Goals.{After-get-size, In-loop-j}
use Rattle.char_function.proofs.levels.result_level.Goals as goal

-- the level's result
step_here : (c : After-get-size)
    → IsStep c.args.fixing.now.machine.now c.args.fixing.now.order.now c.args.place
    c.get-item.result.now c.get-size.result.now
step_here c =
    let f = c.requires.fixing in
    step_of c.args.fixing.now.machine.now c.args.fixing.now.order.now c.args.fixing.now.sizes.now
    c.args.store.now.sizes c.args.place c.get-item.result.now c.from.result c.get-size.result.now
    f.ordered f.all_sizes c.requires.store.sizes c.same_value_same_node.ensures.reduced.sizes
    c.requires.place c.get-item.ensures c.from.ensures c.get-size.ensures

-- a node that is still of the level after it
record Left (m : Machine) (order : List ℕ) (s : Diagrams) (p block : ℕ) (before nodes : List ℕ)
    (j : ℕ) : Type 0 where
  low : j < length before
  left : IsLeft m order s (p + 1) (j * block) (slice_index nodes j)

left_here : (c : In-loop-j)
    → Left c.args.fixing.now.machine.now c.args.fixing.now.order.now c.loop-j.store c.args.place
    c.args.block c.args.nodes.now.items c.loop-j.nodes.items c.loop-j.j
left_here c =
    let low : c.loop-j.j < length c.args.nodes.now.items = let a = c.loop-j-test.true in
    let b = c.len-j-end.ensures in let d = c.args.nodes.now.ok.0 in omega arith in
    record {
      low = low;
      left = c.loop-j.invariant.half.rest c.loop-j.j (omega arith) (omega arith);
    }

-- the place is of the list
place_here : (c : In-loop-j) → c.loop-j.j < c.loop-j.nodes.len
place_here c =
    let low = (left_here c).low in
    let wide = c.loop-j.invariant.half.long in
    let held = c.loop-j.nodes.ok.0 in
    omega arith

pub get-size-requires : goal.get-size-requires
get-size-requires c =
    item_below c.args.fixing.now.order.now c.args.fixing.now.sizes.now c.args.place
    c.get-item.result.now c.from.result c.requires.fixing.ordered c.requires.fixing.all_sizes
    c.requires.place c.get-item.ensures c.from.ensures

pub loop-j-init : goal.loop-j-init
loop-j-init c =
    let m = c.args.fixing.now.machine.now in
    let order = c.args.fixing.now.order.now in
    record {
      kept = keeps_same c.args.store.now;
      half = half_none m order c.args.store.now c.args.place c.args.block c.args.block 1
          c.args.nodes.now.items (length c.args.nodes.now.items) c.requires.level (omega arith);
    }

pub overflow_mul-j : goal.overflow_mul-j
overflow_mul-j c =
    let m = c.args.fixing.now.machine.now in
    let left = (left_here (goal.at.overflow_mul-j c).In-loop-j).left in
    let few = points_few m in
    let inside = left.low in
    omega arith

pub code_at-code-requires-clause-item : goal.code_at-code-requires-clause-item
code_at-code-requires-clause-item c =
    let step = step_here (goal.at.code_at-code-requires-clause-item c).After-get-size in
    step.at.inside

pub result_node-requires-clause-size : goal.result_node-requires-clause-size
result_node-requires-clause-size c =
    let f = c.requires.fixing in
    let item = c.get-item.result.now in
    let step = step_here (goal.at.result_node-requires-clause-size c).After-get-size in
    let part = c.loop-j.invariant in
    step.sized
    ∙ ap (λ (xs : List ℕ). slice_index xs item)
    (sym (part.kept.sizes ∙ c.requires.store.sizes ∙ f.all_sizes))

pub result_node-requires-clause-few : goal.result_node-requires-clause-few
result_node-requires-clause-few c =
    let step = step_here (goal.at.result_node-requires-clause-few c).After-get-size in
    step.few

pub result_node-requires-clause-code : goal.result_node-requires-clause-code
result_node-requires-clause-code c =
    let step = step_here (goal.at.result_node-requires-clause-code c).After-get-size in
    let sized = step.sized in
    let below = c.code_at-code.ensures.below in
    omega arith

pub result_node-requires-clause-kid : goal.result_node-requires-clause-kid
result_node-requires-clause-kid c =
    let s = c.loop-j.store in
    let part = c.loop-j.invariant in
    let j = c.loop-j.j in
    let low = (left_here (goal.at.result_node-requires-clause-kid c).In-loop-j).low in
    let left = (left_here (goal.at.result_node-requires-clause-kid c).In-loop-j).left in
    let wide = part.half.long in
    let kid = sym (c.index.ensures
    ∙ get_or_default c.loop-j.nodes.items j c.index.result.now 0 (omega arith)) in
    subst (λ (n : ℕ). IsNode s n) kid left.means.node

pub result_node-requires-clause-later : goal.result_node-requires-clause-later
result_node-requires-clause-later c =
    let order = c.args.fixing.now.order.now in
    let item = c.get-item.result.now in
    let step = step_here (goal.at.result_node-requires-clause-later c).After-get-size in
    let s = c.loop-j.store in
    let part = c.loop-j.invariant in
    let j = c.loop-j.j in
    let low = (left_here (goal.at.result_node-requires-clause-later c).In-loop-j).low in
    let left = (left_here (goal.at.result_node-requires-clause-later c).In-loop-j).left in
    let wide = part.half.long in
    let kid = sym (c.index.ensures
    ∙ get_or_default c.loop-j.nodes.items j c.index.result.now 0 (omega arith)) in
    let level = left.level in
    let g = ap (level_of s) kid in
    let placed = step.at.placed in
    let e : place s.order item ≡ place order item =
    ap (λ (xs : List ℕ). place xs item) (part.kept.order ∙ c.requires.store.order) in
    omega arith

pub returns-in_err-node-clause-kept : goal.returns-in_err-node-clause-kept
returns-in_err-node-clause-kept c =
    keeps_trans c.args.store.now c.loop-j.store c.result_node.new.store c.loop-j.invariant.kept
    c.result_node.ensures.kept

pub loop-j-preserved : goal.loop-j-preserved
loop-j-preserved c =
    let m = c.args.fixing.now.machine.now in
    let order = c.args.fixing.now.order.now in
    let f = c.requires.fixing in
    let p = c.args.place in
    let item = c.get-item.result.now in
    let s0 = c.args.store.now in
    let step = step_here (goal.at.loop-j-preserved c).After-get-size in
    let s = c.loop-j.store in
    let part = c.loop-j.invariant in
    let j = c.loop-j.j in
    let low = (left_here (goal.at.loop-j-preserved c).In-loop-j).low in
    let left = (left_here (goal.at.loop-j-preserved c).In-loop-j).left in
    let wide = part.half.long in
    let kid = sym (c.index.ensures
    ∙ get_or_default c.loop-j.nodes.items j c.index.result.now 0 (omega arith)) in
    let new = c.result_node.new.store in
    let n = c.in_ok-node.node in
    let placed = step.at.placed in
    let e : place s.order item ≡ place order item =
    ap (λ (xs : List ℕ). place xs item) (part.kept.order ∙ c.requires.store.order) in
    let level = c.in_ok-node.ensures.level in
    let at = step.at.is in
    let result = c.requires.item in
    record {
      kept = keeps_trans s0 s new part.kept c.result_node.ensures.kept;
      half = half_more m order s new p c.args.block c.args.block 1 c.loop-j.nodes.items j
          (length c.args.nodes.now.items) n part.half c.result_node.ensures.kept (omega arith) low
          (record {
            low = left.low;
            means = result_left c.laws_of_computing.ensures.results_fit
                c.laws_of_computing.ensures.same_on_support m order f.ordered s new p item
                c.code_at-code.result (j * c.args.block) c.index.result.now n step.at (omega arith)
                left.low c.code_at-code.ensures.code
                (part.kept.sizes ∙ c.requires.store.sizes ∙ f.all_sizes)
                c.result_node.ensures.kept.sizes
                (subst (λ (k : ℕ). Means s k (left_from m order (p + 1) (j * c.args.block))) kid
                left.means) c.in_ok-node.ensures.value;
            level = omega arith;
          });
    }

pub returns-clause-kept : goal.returns-clause-kept
returns-clause-kept c =
    c.loop-j.invariant.kept

pub returns-clause-level : goal.returns-clause-level
returns-clause-level c =
    let m = c.args.fixing.now.machine.now in
    let order = c.args.fixing.now.order.now in
    let s = c.loop-j.store in
    let count : ℕ = length c.args.nodes.now.items in
    let done : c.loop-j.j ≡ count = let a = c.loop-j-test.false in let b = c.len-j-end.ensures in
    let d = c.args.nodes.now.ok.0 in let e = c.loop-j.auto.j-end in omega arith in
    result_done m order s c.args.store.now c.args.place c.args.block c.loop-j.nodes.items
    c.args.nodes.now.items count c.requires.level c.requires.place c.requires.item (omega arith)
    (subst (λ (k : ℕ). AreHalf m order s c.args.place c.args.block c.args.block 1
    c.loop-j.nodes.items k count) done c.loop-j.invariant.half)

pub index-requires : goal.index-requires
index-requires c =
    place_here (goal.at.index-requires c).In-loop-j

pub index_mut-requires : goal.index_mut-requires
index_mut-requires c =
    place_here (goal.at.index_mut-requires c).In-loop-j
