use Rattle.std.proofs.Common.{◌≡◌, ◌∙◌, ◌+◌, ◌*◌, ◌<◌, ◌≤◌, ℕ, suc, List, length, drop, slice_index, slice_set, take, ap, sym, subst, arith, length-take}
use Rattle.std.proofs.lemmas.List.{get_or-take, length-replicate}
use Rattle.domains.specs.Orders.{place}
use Rattle.domains.specs.Tables.{product}
use Rattle.decision_diagram.specs.Diagrams.{IsNode, Means, level_of}
use Rattle.transition_table.specs.Orders.{sizes_of}
use Rattle.char_function.specs.inner.Left.{IsFirst, left_from}
use Rattle.char_function.proofs.Below.{item_below}
use Rattle.char_function.proofs.FixedKids.{AreFixedKids, IsStep, fixed_more, left_kept, next_of, node_left, points_few, result_left, step_of, vars_size}
use Rattle.char_function.proofs.LeftFrom.{IsNext, first_more}
use Rattle.decision_diagram.proofs.ListItems.{read}
use Rattle.decision_diagram.proofs.Growth.{keeps_same, keeps_trans}
use Rattle.char_function.proofs.fixing.+fixed_node.Goals.{After-from-2, After-from-in-loop-code, After-same_kids-kids}
use Rattle.char_function.proofs.fixing.+fixed_node.Goals as goal

-- the place is of the order
low_at : (start place long : ℕ) → place ≤ start → (place ≡ start → ⊥) → start ≤ long
    → place < long
low_at start place long most other within = omega arith

pub outcome_node-requires-clause-snapshot : goal.outcome_node-requires-clause-snapshot
outcome_node-requires-clause-snapshot t c = c.requires.first.snapshot

pub get-item-requires : goal.get-item-requires
get-item-requires t c =
    low_at c.args.fixing.now.start c.args.place (length c.args.fixing.now.order.now)
    c.requires.place c.if-place-fixing.false c.requires.fixing.within

pub get-size-requires : goal.get-size-requires
get-size-requires t c =
    item_below c.args.fixing.now.order.now c.args.fixing.now.sizes.now c.args.place
    c.get-item.result.now c.from.result c.requires.fixing.ordered c.requires.fixing.all_sizes
    (low_at c.args.fixing.now.start c.args.place (length c.args.fixing.now.order.now)
    c.requires.place c.if-place-fixing.false c.requires.fixing.within)
    c.get-item.ensures c.from.ensures

-- the item at the place, and its size
step_at : (t : ℕ) (c : After-from-2 t)
    → IsStep c.args.fixing.now.machine.now c.args.fixing.now.order.now c.args.place
    c.get-item.result.now c.get-size.result.now
step_at t c =
    let f = c.requires.fixing in
    let most = c.requires.place in
    let other = c.if-place-fixing.false in
    let within = f.within in
    let low : c.args.place < length c.args.fixing.now.order.now = omega arith in
    step_of c.args.fixing.now.machine.now c.args.fixing.now.order.now c.args.fixing.now.sizes.now
    c.args.store.now.sizes c.args.place c.get-item.result.now c.from.result c.get-size.result.now
    f.ordered f.all_sizes c.requires.store.sizes c.same_value_same_node.ensures.reduced.sizes low
    c.get-item.ensures c.from.ensures c.get-size.ensures

pub code_at-code-requires-clause-item : goal.code_at-code-requires-clause-item
code_at-code-requires-clause-item t c =
    (step_at t (goal.at.code_at-code-requires-clause-item t c).After-from-2).at.inside

pub code_at-code-requires-clause-snapshot : goal.code_at-code-requires-clause-snapshot
code_at-code-requires-clause-snapshot t c = c.requires.first.snapshot

pub code_at-code-requires-clause-table : goal.code_at-code-requires-clause-table
code_at-code-requires-clause-table t c = c.requires.fixing.table

pub result_node-requires-clause-kid : goal.result_node-requires-clause-kid
result_node-requires-clause-kid t c = c.in_ok-kid.ensures.value.node

stride_at : (item from long number vars strides : ℕ) → from < long → from ≡ item → long ≡ vars
    → number ≡ item → strides ≡ vars → number < strides
stride_at item from long number vars strides low from_is long_is number_is strides_long = omega arith

-- how far apart the snapshots with its codes stand
record Apart (vars : List ℕ) (item stride : ℕ) : Type 0 where
  inside : item < length vars
  is : stride ≡ product (drop (item + 1) vars)

apart_at : (t : ℕ) (c : After-same_kids-kids t)
    → Apart c.args.fixing.now.machine.now.vars c.get-item.result.now c.get-stride.result.now
apart_at t c =
    let item = c.get-item.result.now in
    let strides = c.args.fixing.now.strides.now in
    let inside : item < length c.args.fixing.now.machine.now.vars = let a = c.if-from-len.false in
    let b = c.from-2.ensures in let d = c.len.ensures.len in omega arith in
    record {
      inside = inside;
      is = sym (read strides c.from-3.result c.get-stride.result.now 0 c.get-stride.ensures)
          ∙ ap (slice_index strides) c.from-3.ensures
          ∙ c.requires.fixing.apart.each item inside;
    }

-- the first snapshot with one code
next_at : (t : ℕ) (c : After-from-in-loop-code t)
    → IsNext c.args.fixing.now.machine.now c.args.fixing.now.order.now
    c.requires.fixing.ordered c.args.place c.get-item.result.now c.args.i
    c.from-in-loop-code.result
    (c.args.i + c.from-in-loop-code.result * c.get-stride.result.now)
next_at t c =
    let apart = apart_at t (goal.at.overflow_mul-first t c).After-same_kids-kids in
    let is_code = c.from-in-loop-code.ensures in
    let test = c.loop-code-test.true in
    next_of c.laws_of_all_codes.ensures.stands_once c.args.fixing.now.machine.now
    c.args.fixing.now.order.now c.requires.fixing.ordered c.args.place c.get-item.result.now
    c.get-size.result.now c.args.i c.from-in-loop-code.result c.get-stride.result.now
    (step_at t (goal.at.overflow_mul-first t c).After-from-2) apart.inside
    c.requires.first.snapshot (omega arith) c.requires.first.first apart.is

pub fixed_node-requires : goal.fixed_node-requires
fixed_node-requires t c =
    let m = c.args.fixing.now.machine.now in
    let order = c.args.fixing.now.order.now in
    let f = c.requires.fixing in
    let p = c.args.place in
    let step = step_at t (goal.at.fixed_node-requires t c).After-from-2 in
    let p_low = step.at.low in
    let more : suc p ≡ p + 1 = omega arith in
    let d = c.decreases in (
      omega arith,
      (
        omega arith,
        (
          f,
          (
            c.requires.store,
            record {
              snapshot = c.requires.first.snapshot;
              first = subst (λ (k : ℕ). IsFirst m order k c.args.i) more
                  (first_more m order f.ordered p c.args.i p_low c.requires.first.first);
            },
          ),
        ),
      ),
    )

pub result_node-requires-clause-size : goal.result_node-requires-clause-size
result_node-requires-clause-size t c =
    let f = c.requires.fixing in
    let item = c.get-item.result.now in
    let step = step_at t (goal.at.result_node-requires-clause-size t c).After-from-2 in
    step.sized
    ∙ ap (λ (xs : List ℕ). slice_index xs item)
    (sym (c.fixed_node.ensures.kept.sizes ∙ c.requires.store.sizes ∙ f.all_sizes))

pub result_node-requires-clause-few : goal.result_node-requires-clause-few
result_node-requires-clause-few t c =
    let step = step_at t (goal.at.result_node-requires-clause-few t c).After-from-2 in
    step.few

pub result_node-requires-clause-code : goal.result_node-requires-clause-code
result_node-requires-clause-code t c =
    let step = step_at t (goal.at.result_node-requires-clause-code t c).After-from-2 in
    let sized = step.sized in
    let below = c.code_at-code.ensures.below in
    omega arith

pub result_node-requires-clause-later : goal.result_node-requires-clause-later
result_node-requires-clause-later t c =
    let order = c.args.fixing.now.order.now in
    let item = c.get-item.result.now in
    let step = step_at t (goal.at.result_node-requires-clause-later t c).After-from-2 in
    let placed = step.at.placed in
    let e : place c.fixed_node.new.store.order item ≡ place order item =
    ap (λ (xs : List ℕ). place xs item) (c.fixed_node.ensures.kept.order ∙ c.requires.store.order) in
    let level = c.in_ok-kid.ensures.level in
    omega arith

pub returns-in_err-node-2-clause-kept : goal.returns-in_err-node-2-clause-kept
returns-in_err-node-2-clause-kept t c =
    keeps_trans c.args.store.now c.fixed_node.new.store c.result_node.new.store
    c.fixed_node.ensures.kept c.result_node.ensures.kept

pub returns-then-from-len-clause-kept : goal.returns-then-from-len-clause-kept
returns-then-from-len-clause-kept t c =
    keeps_trans c.args.store.now c.fixed_node.new.store c.result_node.new.store
    c.fixed_node.ensures.kept c.result_node.ensures.kept

pub returns-then-from-len-clause-value : goal.returns-then-from-len-clause-value
returns-then-from-len-clause-value t c =
    let m = c.args.fixing.now.machine.now in
    let order = c.args.fixing.now.order.now in
    let f = c.requires.fixing in
    let p = c.args.place in
    let item = c.get-item.result.now in
    let step = step_at t (goal.at.returns-then-from-len-clause-value t c).After-from-2 in
    let high : length m.vars ≤ item = let a = c.if-from-len.true in let b = c.from-2.ensures in
    let d = c.len.ensures.len in omega arith in
    result_left c.laws_of_computing.ensures.results_fit c.laws_of_computing.ensures.same_on_support m
    order f.ordered c.fixed_node.new.store c.result_node.new.store p item c.code_at-code.result
    c.args.i c.in_ok-kid.kid c.in_ok-node-2.node step.at high c.requires.first.snapshot
    c.code_at-code.ensures.code
    (c.fixed_node.ensures.kept.sizes ∙ c.requires.store.sizes ∙ f.all_sizes)
    c.result_node.ensures.kept.sizes c.in_ok-kid.ensures.value c.in_ok-node-2.ensures.value

pub returns-then-from-len-clause-level : goal.returns-then-from-len-clause-level
returns-then-from-len-clause-level t c =
    let order = c.args.fixing.now.order.now in
    let item = c.get-item.result.now in
    let step = step_at t (goal.at.returns-then-from-len-clause-level t c).After-from-2 in
    let placed = step.at.placed in
    let e : place c.fixed_node.new.store.order item ≡ place order item =
    ap (λ (xs : List ℕ). place xs item) (c.fixed_node.ensures.kept.order ∙ c.requires.store.order) in
    let level = c.in_ok-node-2.ensures.level in
    omega arith

pub returns-then-from-len-clause-known : goal.returns-then-from-len-clause-known
returns-then-from-len-clause-known t c =
    left_kept c.args.fixing.now.machine.now c.args.fixing.now.table.now c.fixed_node.new.store
    c.result_node.new.store c.args.fixing.now.start c.fixed_node.new.known
    c.result_node.ensures.kept c.in_ok-kid.ensures.known

pub overflow_mul-first : goal.overflow_mul-first
overflow_mul-first t c =
    let m = c.args.fixing.now.machine.now in
    let test = c.loop-code-test.true in
    let next = next_at t (goal.at.overflow_mul-first t c).After-from-in-loop-code in
    let low = next.low in
    let few = points_few m in
    omega arith

pub overflow_add-first : goal.overflow_add-first
overflow_add-first t c =
    let m = c.args.fixing.now.machine.now in
    let test = c.loop-code-test.true in
    let next = next_at t (goal.at.overflow_add-first t c).After-from-in-loop-code in
    let low = next.low in
    let few = points_few m in
    omega arith

pub fixed_node-requires-in-loop-code : goal.fixed_node-requires-in-loop-code
fixed_node-requires-in-loop-code t c =
    let m = c.args.fixing.now.machine.now in
    let order = c.args.fixing.now.order.now in
    let f = c.requires.fixing in
    let p = c.args.place in
    let stride = c.get-stride.result.now in
    let code = c.from-in-loop-code.result in
    let test = c.loop-code-test.true in
    let next = next_at t (goal.at.fixed_node-requires-in-loop-code t c).After-from-in-loop-code in
    let more : suc p ≡ p + 1 = omega arith in
    let kept = c.loop-code.invariant.kept in
    let d = c.decreases in (
      omega arith,
      (
        omega arith,
        (
          f,
          (
            record {
              order = kept.order ∙ c.requires.store.order;
              sizes = kept.sizes ∙ c.requires.store.sizes;
              known = c.loop-code.invariant.known;
            },
            record {
              snapshot = next.low;
              first = subst (λ (k : ℕ). IsFirst m order k (c.args.i + code * stride)) more
                  next.first;
            },
          ),
        ),
      ),
    )

pub returns-in_err-kid-2-clause-kept : goal.returns-in_err-kid-2-clause-kept
returns-in_err-kid-2-clause-kept t c =
    keeps_trans c.args.store.now c.loop-code.store c.fixed_node-in-loop-code.new.store
    c.loop-code.invariant.kept c.fixed_node-in-loop-code.ensures.kept

pub listed : goal.listed
listed t c =
    let step = step_at t (goal.at.listed t c).After-from-2 in
    let test = c.loop-code-test.true in
    let two = c.from-in-loop-code-2.ensures in
    let few = step.few in
    let long = c.loop-code.invariant.kids.long in
    omega arith

pub bounds-kids-from : goal.bounds-kids-from
bounds-kids-from t c =
    let step = step_at t (goal.at.bounds-kids-from t c).After-from-2 in
    let test = c.loop-code-test.true in
    let two = c.from-in-loop-code-2.ensures in
    let few = step.few in
    omega arith

pub loop-code-preserved : goal.loop-code-preserved
loop-code-preserved t c =
    let m = c.args.fixing.now.machine.now in
    let order = c.args.fixing.now.order.now in
    let p = c.args.place in
    let step = step_at t (goal.at.loop-code-preserved t c).After-from-2 in
    let stride = c.get-stride.result.now in
    let code = c.from-in-loop-code.result in
    let is_code : code ≡ c.loop-code.code = c.from-in-loop-code.ensures in
    let test = c.loop-code-test.true in
    let s = c.loop-code.store in
    let new = c.fixed_node-in-loop-code.new.store in
    let kept = c.loop-code.invariant.kept in
    let grown = c.fixed_node-in-loop-code.ensures.kept in
    let kids = c.loop-code.kids in
    let n = c.in_ok-kid-2.kid in
    let k = c.loop-code.code in
    let few = step.few in
    record {
      kept = keeps_trans c.args.store.now s new kept grown;
      kids = subst (λ (j : ℕ). AreFixedKids m order new p c.args.i stride (slice_set kids j n) (k + 1))
          (sym c.from-in-loop-code-2.ensures)
          (fixed_more m order s new p c.args.i stride kids k n c.loop-code.invariant.kids grown
          (omega arith)
          (subst (λ (j : ℕ). Means new n (left_from m order (p + 1) (c.args.i + j * stride))) is_code
          c.in_ok-kid-2.ensures.value) c.in_ok-kid-2.ensures.level);
      known = c.in_ok-kid-2.ensures.known;
    }

pub shared_whole_as_front-node : goal.shared_whole_as_front-node
shared_whole_as_front-node t c =
    let size = c.get-size.result.now in
    let step = step_at t (goal.at.shared_whole_as_front-node t c).After-from-2 in
    let done : c.loop-code.code ≡ size = let a = c.loop-code-test.false in
    let b = c.loop-code.auto.code-end in omega arith in
    let part = c.loop-code.invariant in
    let four : c.from-4.result ≡ size = c.from-4.ensures in
    let few = step.few in
    (omega arith, omega arith)

pub node-requires-clause-kids : goal.node-requires-clause-kids
node-requires-clause-kids t c =
    let m = c.args.fixing.now.machine.now in
    let f = c.requires.fixing in
    let item = c.get-item.result.now in
    let size = c.get-size.result.now in
    let step = step_at t (goal.at.node-requires-clause-kids t c).After-from-2 in
    let done : c.loop-code.code ≡ size = let a = c.loop-code-test.false in
    let b = c.loop-code.auto.code-end in omega arith in
    let part = c.loop-code.invariant in
    let four : c.from-4.result ≡ size = c.from-4.ensures in
    let few = step.few in
    let long = part.kids.long in
    let d = length-take c.from-4.result c.loop-code.kids in
    let e : slice_index c.loop-code.store.sizes item ≡ slice_index (sizes_of m) item =
    ap (λ (xs : List ℕ). slice_index xs item) (part.kept.sizes ∙ c.requires.store.sizes ∙ f.all_sizes) in
    let sized = step.sized in
    omega arith

pub node-requires-clause-later : goal.node-requires-clause-later
node-requires-clause-later t c code low =
    let order = c.args.fixing.now.order.now in
    let item = c.get-item.result.now in
    let size = c.get-size.result.now in
    let step = step_at t (goal.at.node-requires-clause-later t c).After-from-2 in
    let done : c.loop-code.code ≡ size = let a = c.loop-code-test.false in
    let b = c.loop-code.auto.code-end in omega arith in
    let part = c.loop-code.invariant in
    let four : c.from-4.result ≡ size = c.from-4.ensures in
    let d = length-take c.from-4.result c.loop-code.kids in
    let shown : code < length (take c.from-4.result c.loop-code.kids) = low in
    let placed = step.at.placed in
    let e : place c.loop-code.store.order item ≡ place order item =
    ap (λ (xs : List ℕ). place xs item) (part.kept.order ∙ c.requires.store.order) in
    let code_low : code < c.loop-code.code = omega arith in
    let level = part.kids.levels code code_low in
    let g : level_of c.loop-code.store
    (slice_index (take c.from-4.result c.loop-code.kids) code)
    ≡ level_of c.loop-code.store (slice_index c.loop-code.kids code) =
    ap (level_of c.loop-code.store)
    (get_or-take c.from-4.result c.loop-code.kids code 0 (omega arith)) in
    omega arith

pub returns-in_err-node-3-clause-kept : goal.returns-in_err-node-3-clause-kept
returns-in_err-node-3-clause-kept t c =
    keeps_trans c.args.store.now c.loop-code.store c.node.new.self c.loop-code.invariant.kept
    c.node.ensures.kept

pub returns-clause-kept : goal.returns-clause-kept
returns-clause-kept t c =
    keeps_trans c.args.store.now c.loop-code.store c.node.new.self c.loop-code.invariant.kept
    c.node.ensures.kept

pub returns-clause-value : goal.returns-clause-value
returns-clause-value t c =
    let m = c.args.fixing.now.machine.now in
    let order = c.args.fixing.now.order.now in
    let f = c.requires.fixing in
    let p = c.args.place in
    let item = c.get-item.result.now in
    let size = c.get-size.result.now in
    let step = step_at t (goal.at.returns-clause-value t c).After-from-2 in
    let stride = c.get-stride.result.now in
    let inside = (apart_at t (goal.at.returns-clause-value t c).After-same_kids-kids).inside in
    let stride_is = (apart_at t (goal.at.returns-clause-value t c).After-same_kids-kids).is in
    let done : c.loop-code.code ≡ size = let a = c.loop-code-test.false in
    let b = c.loop-code.auto.code-end in omega arith in
    let part = c.loop-code.invariant in
    let four : c.from-4.result ≡ size = c.from-4.ensures in
    let vars_sized = vars_size m order p item size step inside in
    let sized : c.loop-code.code ≡ slice_index m.vars item = done ∙ vars_sized in
    node_left c.laws_of_computing.ensures.same_on_support m order f.ordered c.loop-code.store
    c.node.new.self p item c.args.i stride c.in_ok-node-3.node c.loop-code.kids
    (take c.from-4.result c.loop-code.kids) step.at inside c.requires.first.snapshot
    (λ k low. next_of c.laws_of_all_codes.ensures.stands_once m order f.ordered p item size c.args.i
    k stride step inside c.requires.first.snapshot (omega arith) c.requires.first.first stride_is)
    (part.kept.sizes ∙ c.requires.store.sizes ∙ f.all_sizes) c.node.ensures.kept.sizes
    (subst (λ (k : ℕ). AreFixedKids m order c.loop-code.store p c.args.i stride c.loop-code.kids k)
    sized part.kids)
    (ap (λ (k : ℕ). take k c.loop-code.kids) (four ∙ vars_sized)) c.in_ok-node-3.ensures.value

pub returns-clause-level : goal.returns-clause-level
returns-clause-level t c =
    let order = c.args.fixing.now.order.now in
    let item = c.get-item.result.now in
    let size = c.get-size.result.now in
    let step = step_at t (goal.at.returns-clause-level t c).After-from-2 in
    let done : c.loop-code.code ≡ size = let a = c.loop-code-test.false in
    let b = c.loop-code.auto.code-end in omega arith in
    let part = c.loop-code.invariant in
    let four : c.from-4.result ≡ size = c.from-4.ensures in
    let placed = step.at.placed in
    let e : place c.loop-code.store.order item ≡ place order item =
    ap (λ (xs : List ℕ). place xs item) (part.kept.order ∙ c.requires.store.order) in
    let level = c.in_ok-node-3.ensures.level in
    omega arith

pub returns-clause-known : goal.returns-clause-known
returns-clause-known t c =
    left_kept c.args.fixing.now.machine.now c.args.fixing.now.table.now c.loop-code.store
    c.node.new.self c.args.fixing.now.start c.loop-code.known c.node.ensures.kept
    c.loop-code.invariant.known

pub get-stride-requires : goal.get-stride-requires
get-stride-requires t c =
    stride_at c.get-item.result.now c.from-2.result c.len.result c.from-3.result
    (length c.args.fixing.now.machine.now.vars) (length c.args.fixing.now.strides.now)
    c.if-from-len.false c.from-2.ensures c.len.ensures.len c.from-3.ensures
    c.requires.fixing.apart.long

pub loop-code-init : goal.loop-code-init
loop-code-init t c = record {
  kept = keeps_same c.args.store.now;
  kids = record {
    long = ap (λ (xs : List ℕ). length xs) c.same_kids-kids.ensures
        ∙ length-replicate 33 c.constant-none.result;
    means = λ code low. absurd (omega arith);
    levels = λ code low. absurd (omega arith);
  };
  known = c.requires.store.known;
}

pub node-requires-clause-var : goal.node-requires-clause-var
node-requires-clause-var t c =
    subst (λ (xs : List ℕ). c.get-item.result.now < length xs)
    (sym (c.loop-code.invariant.kept.sizes ∙ c.requires.store.sizes ∙ c.requires.fixing.all_sizes))
    (step_at t (goal.at.node-requires-clause-var t c).After-from-2).at.inside

pub node-requires-clause-nodes : goal.node-requires-clause-nodes
node-requires-clause-nodes t c code low =
    let size = c.get-size.result.now in
    let done : c.loop-code.code ≡ size = let a = c.loop-code-test.false in
    let b = c.loop-code.auto.code-end in omega arith in
    let four : c.from-4.result ≡ size = c.from-4.ensures in
    let d = length-take c.from-4.result c.loop-code.kids in
    subst (λ (n : ℕ). IsNode c.loop-code.store n)
    (sym (get_or-take c.from-4.result c.loop-code.kids code 0 (omega arith)))
    (c.loop-code.invariant.kids.means code (omega arith)).node

pub returns-then-place-fixing-clause-kept : goal.returns-then-place-fixing-clause-kept
returns-then-place-fixing-clause-kept t c = c.outcome_node.ensures.kept

pub returns-then-place-fixing-clause-value : goal.returns-then-place-fixing-clause-value
returns-then-place-fixing-clause-value t c =
    subst (λ (k : ℕ). Means c.outcome_node.new.store c.in_ok-node.node
    (left_from c.args.fixing.now.machine.now c.args.fixing.now.order.now k c.args.i))
    (sym c.if-place-fixing.true) c.in_ok-node.ensures.value

pub returns-then-place-fixing-clause-known : goal.returns-then-place-fixing-clause-known
returns-then-place-fixing-clause-known t c = c.in_ok-node.ensures.known
