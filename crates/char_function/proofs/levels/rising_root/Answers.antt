use Rattle.std.proofs.Common.{◌≡◌, ◌∙◌, ◌+◌, ◌-◌, ◌*◌, ◌<◌, ◌≤◌, ℕ, length, slice_index, ap, sym, subst, arith}
use Rattle.std.proofs.lemmas.List.{get_or_default}
use Rattle.decision_diagram.specs.Diagrams.{Means}
use Rattle.char_function.specs.inner.Left.{left_from}
use Rattle.char_function.specs.inner.Rising.{AreLevel}
use Rattle.char_function.proofs.Below.{item_below}
use Rattle.char_function.proofs.Blocks.{block_few, root_of_level}
use Rattle.decision_diagram.proofs.ListItems.{read}
use Rattle.decision_diagram.proofs.Growth.{keeps_trans}
use Rattle.char_function.proofs.levels.rising_root.Goals as goal

pub last_level-requires-clause-fixing : goal.last_level-requires-clause-fixing
last_level-requires-clause-fixing c = c.requires.fixing

pub last_level-requires-clause-store : goal.last_level-requires-clause-store
last_level-requires-clause-store c = c.requires.store

pub last_level-requires-clause-known : goal.last_level-requires-clause-known
last_level-requires-clause-known c = c.requires.known

pub variable_level-requires-clause-fixing : goal.variable_level-requires-clause-fixing
variable_level-requires-clause-fixing c = c.requires.fixing

pub variable_level-requires-clause-rising : goal.variable_level-requires-clause-rising
variable_level-requires-clause-rising c = c.requires.rising

pub result_level-requires-clause-fixing : goal.result_level-requires-clause-fixing
result_level-requires-clause-fixing c = c.requires.fixing

place_before : (place long : ℕ) → 0 < place → place ≤ long → place - 1 < long
place_before place long some within = omega arith

pub get-requires-then-item-len : goal.get-requires-then-item-len
get-requires-then-item-len c =
    item_below c.args.fixing.now.order.now c.args.fixing.now.sizes.now (c.loop-place.place - 1)
    c.get.result.now c.from-item.result c.requires.fixing.ordered c.requires.fixing.all_sizes
    (place_before c.loop-place.place (length c.args.fixing.now.order.now) c.loop-place-test.true
    c.loop-place.invariant.within) c.get.ensures c.from-item.ensures

pub loop-place-init : goal.loop-place-init
loop-place-init c = record {
  kept = c.last_level.ensures.kept;
  within = c.requires.fixing.within;
  level = c.in_ok-nodes.ensures.level;
}

pub get-requires : goal.get-requires
get-requires c =
    let m = c.args.fixing.now.machine.now in
    let order = c.args.fixing.now.order.now in
    let f = c.requires.fixing in
    let part = c.loop-place.invariant in
    let within = part.within in
    let test = c.loop-place-test.true in
    let p : ℕ = c.loop-place.place - 1 in
    omega arith

pub variable_level-requires-clause-store : goal.variable_level-requires-clause-store
variable_level-requires-clause-store c = record {
  order = c.loop-place.invariant.kept.order ∙ c.requires.store.order;
  sizes = c.loop-place.invariant.kept.sizes ∙ c.requires.store.sizes;
}

pub variable_level-requires-clause-place : goal.variable_level-requires-clause-place
variable_level-requires-clause-place c =
    let m = c.args.fixing.now.machine.now in
    let order = c.args.fixing.now.order.now in
    let f = c.requires.fixing in
    let part = c.loop-place.invariant in
    let within = part.within in
    let test = c.loop-place-test.true in
    let p : ℕ = c.loop-place.place - 1 in
    omega arith

pub variable_level-requires-clause-item : goal.variable_level-requires-clause-item
variable_level-requires-clause-item c =
    let m = c.args.fixing.now.machine.now in
    let order = c.args.fixing.now.order.now in
    let f = c.requires.fixing in
    let part = c.loop-place.invariant in
    let within = part.within in
    let test = c.loop-place-test.true in
    let p : ℕ = c.loop-place.place - 1 in
    let is = read order p c.get.result.now 0 c.get.ensures in
    let from = c.from-item.ensures in
    let side = c.if-item-len.true in
    let long = c.len.ensures.len in
    omega arith

pub variable_level-requires-clause-level : goal.variable_level-requires-clause-level
variable_level-requires-clause-level c =
    let m = c.args.fixing.now.machine.now in
    let order = c.args.fixing.now.order.now in
    let f = c.requires.fixing in
    let part = c.loop-place.invariant in
    let within = part.within in
    let test = c.loop-place-test.true in
    let p : ℕ = c.loop-place.place - 1 in
    let more : c.loop-place.place ≡ p + 1 = omega arith in
    subst (λ (k : ℕ). AreLevel m order c.loop-place.store k c.loop-place.block
    c.loop-place.nodes.items) more part.level

pub returns-in_err-variable_level-clause-kept : goal.returns-in_err-variable_level-clause-kept
returns-in_err-variable_level-clause-kept c =
    keeps_trans c.args.store.now c.loop-place.store c.variable_level.new.store
    c.loop-place.invariant.kept c.variable_level.ensures.kept

pub result_level-requires-clause-store : goal.result_level-requires-clause-store
result_level-requires-clause-store c = record {
  order = c.loop-place.invariant.kept.order ∙ c.requires.store.order;
  sizes = c.loop-place.invariant.kept.sizes ∙ c.requires.store.sizes;
}

pub result_level-requires-clause-place : goal.result_level-requires-clause-place
result_level-requires-clause-place c =
    let m = c.args.fixing.now.machine.now in
    let order = c.args.fixing.now.order.now in
    let f = c.requires.fixing in
    let part = c.loop-place.invariant in
    let within = part.within in
    let test = c.loop-place-test.true in
    let p : ℕ = c.loop-place.place - 1 in
    omega arith

pub result_level-requires-clause-item : goal.result_level-requires-clause-item
result_level-requires-clause-item c =
    let m = c.args.fixing.now.machine.now in
    let order = c.args.fixing.now.order.now in
    let f = c.requires.fixing in
    let part = c.loop-place.invariant in
    let within = part.within in
    let test = c.loop-place-test.true in
    let p : ℕ = c.loop-place.place - 1 in
    let is = read order p c.get.result.now 0 c.get.ensures in
    let from = c.from-item.ensures in
    let side = c.if-item-len.false in
    let long = c.len.ensures.len in
    omega arith

pub result_level-requires-clause-level : goal.result_level-requires-clause-level
result_level-requires-clause-level c =
    let m = c.args.fixing.now.machine.now in
    let order = c.args.fixing.now.order.now in
    let f = c.requires.fixing in
    let part = c.loop-place.invariant in
    let within = part.within in
    let test = c.loop-place-test.true in
    let p : ℕ = c.loop-place.place - 1 in
    let more : c.loop-place.place ≡ p + 1 = omega arith in
    subst (λ (k : ℕ). AreLevel m order c.loop-place.store k c.loop-place.block
    c.loop-place.nodes.items) more part.level

pub returns-in_err-result_level-clause-kept : goal.returns-in_err-result_level-clause-kept
returns-in_err-result_level-clause-kept c =
    keeps_trans c.args.store.now c.loop-place.store c.result_level.new.store
    c.loop-place.invariant.kept c.result_level.ensures.kept

pub overflow_mul-block : goal.overflow_mul-block
overflow_mul-block c =
    let m = c.args.fixing.now.machine.now in
    let order = c.args.fixing.now.order.now in
    let f = c.requires.fixing in
    let part = c.loop-place.invariant in
    let within = part.within in
    let test = c.loop-place-test.true in
    let p : ℕ = c.loop-place.place - 1 in
    let sizes = c.args.fixing.now.sizes.now in
    let size : c.from-block.result ≡ slice_index sizes (slice_index order p) =
    c.from-block.ensures
    ∙ sym (read sizes c.from-item.result c.get-then-item-len.result.now 0
    c.get-then-item-len.ensures)
    ∙ ap (slice_index sizes) (c.from-item.ensures
    ∙ sym (read order p c.get.result.now 0 c.get.ensures)) in
    let same : slice_index sizes (slice_index order p) * c.loop-place.block
    ≡ c.loop-place.block * c.from-block.result =
    ap (λ (k : ℕ). k * c.loop-place.block) (sym size) ∙ omega arith in
    let few = block_few m order c.variable_level.new.store p
    (slice_index sizes (slice_index order p) * c.loop-place.block)
    c.variable_level.new.nodes.items c.len.ensures.sizes c.in_ok-variable_level.ensures.level in
    omega arith

pub loop-place-preserved-then-item-len : goal.loop-place-preserved-then-item-len
loop-place-preserved-then-item-len c =
    let m = c.args.fixing.now.machine.now in
    let order = c.args.fixing.now.order.now in
    let f = c.requires.fixing in
    let part = c.loop-place.invariant in
    let within = part.within in
    let test = c.loop-place-test.true in
    let p : ℕ = c.loop-place.place - 1 in
    let sizes = c.args.fixing.now.sizes.now in
    let size : c.from-block.result ≡ slice_index sizes (slice_index order p) =
    c.from-block.ensures
    ∙ sym (read sizes c.from-item.result c.get-then-item-len.result.now 0
    c.get-then-item-len.ensures)
    ∙ ap (slice_index sizes) (c.from-item.ensures
    ∙ sym (read order p c.get.result.now 0 c.get.ensures)) in
    let same : slice_index sizes (slice_index order p) * c.loop-place.block
    ≡ c.loop-place.block * c.from-block.result =
    ap (λ (k : ℕ). k * c.loop-place.block) (sym size) ∙ omega arith in
    record {
      kept = keeps_trans c.args.store.now c.loop-place.store c.variable_level.new.store
          c.loop-place.invariant.kept c.variable_level.ensures.kept;
      within = omega arith;
      level = subst (λ (k : ℕ). AreLevel m order c.variable_level.new.store p k
          c.variable_level.new.nodes.items) same c.in_ok-variable_level.ensures.level;
    }

pub loop-place-preserved : goal.loop-place-preserved
loop-place-preserved c =
    let m = c.args.fixing.now.machine.now in
    let order = c.args.fixing.now.order.now in
    let f = c.requires.fixing in
    let part = c.loop-place.invariant in
    let within = part.within in
    let test = c.loop-place-test.true in
    let p : ℕ = c.loop-place.place - 1 in
    record {
      kept = keeps_trans c.args.store.now c.loop-place.store c.result_level.new.store
          c.loop-place.invariant.kept c.result_level.ensures.kept;
      within = omega arith;
      level = c.in_ok-result_level.ensures.level;
    }

pub index-requires : goal.index-requires
index-requires c =
    let first : c.loop-place.place ≡ 0 = let t = c.loop-place-test.false in omega arith in
    let root = root_of_level c.args.fixing.now.machine.now c.args.fixing.now.order.now
    c.loop-place.store c.loop-place.place c.loop-place.block c.loop-place.nodes.items first
    c.loop-place.invariant.level in
    let long = c.loop-place.nodes.ok.0 in
    let some = root.0 in
    omega arith

pub returns-clause-kept : goal.returns-clause-kept
returns-clause-kept c =
    c.loop-place.invariant.kept

pub returns-clause-value : goal.returns-clause-value
returns-clause-value c =
    let first : c.loop-place.place ≡ 0 = let t = c.loop-place-test.false in omega arith in
    let root = root_of_level c.args.fixing.now.machine.now c.args.fixing.now.order.now
    c.loop-place.store c.loop-place.place c.loop-place.block c.loop-place.nodes.items first
    c.loop-place.invariant.level in
    subst (λ (n : ℕ). Means c.loop-place.store n
    (left_from c.args.fixing.now.machine.now c.args.fixing.now.order.now 0 0))
    (sym (c.index.ensures
    ∙ get_or_default c.loop-place.nodes.items 0 c.index.result.now 0 root.0)) root.1
