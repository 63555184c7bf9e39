use Rattle.std.proofs.Common.{◌≡◌, ◌⊎◌, ⊎_elim, ◌∙◌, ◌<◌, ◌≤◌, ◌+◌, ◌-◌, min, ℕ, Bool, List, IsTrue, length, slice_index, sym, ap, subst, arith}
use Rattle.domains.specs.Tables.{fits}
use Rattle.domains.specs.Orders.{place}
use Rattle.decision_diagram.specs.Operations.{IsResult, combine}
use Rattle.decision_diagram.specs.declared.operation.Operation.{Operation}
use Rattle.decision_diagram.specs.Diagrams.{Diagrams, IsNode, value_of, level_of, Keeps}
use Rattle.decision_diagram.proofs.Growth.{keeps_same, keeps_trans}
use Rattle.decision_diagram.proofs.Meanings.{level_at_most}
use Rattle.decision_diagram.proofs.OperationResults.{AreParts, parts_keeps, parts_more, parts_mean_one, result_made, result_means}
use Rattle.decision_diagram.proofs.store.Store.+apply.Goals as goal

-- the two cofactors are read later than the earlier of the two nodes
falls : (old s : Diagrams) (var a b left right t : ℕ) → Keeps old s
    → place old.order var ≡ min (level_of old a) (level_of old b)
    → place s.order var < level_of s left → place s.order var < level_of s right
    → length old.order - min (level_of old a) (level_of old b) ≡ t
    → length s.order - min (level_of s left) (level_of s right) < t
falls old s var a b left right t kept first later_left later_right is =
    let order : place s.order var ≡ place old.order var =
    ap (λ (list : List ℕ). place list var) kept.order in
    let long : length s.order ≡ length old.order = ap (length {A = ℕ}) kept.order in
    let most = level_at_most s left in
    omega arith

-- what is settled is one of the two
either_level : (s : Diagrams) (a b n : ℕ) → (n ≡ a) ⊎ (n ≡ b)
    → min (level_of s a) (level_of s b) ≤ level_of s n
either_level s a b n either =
    ⊎_elim (λ same. let e = ap (level_of s) same in omega arith)
    (λ same. let e = ap (level_of s) same in omega arith) either

either_node : (s : Diagrams) (a b n : ℕ) → IsNode s a → IsNode s b → (n ≡ a) ⊎ (n ≡ b)
    → IsNode s n
either_node s a b n left right either =
    ⊎_elim (λ same. subst (IsNode s) (sym same) left)
    (λ same. subst (IsNode s) (sym same) right) either

-- neither node is read before the variable
first_low : (old s : Diagrams) (var a b : ℕ) → Keeps old s → IsNode old a → IsNode old b
    → place old.order var ≡ min (level_of old a) (level_of old b)
    → (place s.order var ≤ level_of s a) × (place s.order var ≤ level_of s b)
first_low old s var a b kept left right first =
    let order = ap (λ (list : List ℕ). place list var) kept.order in
    let left_kept = kept.levels a left in
    let right_kept = kept.levels b right in
    (omega arith, omega arith)

code_low : (code size var : ℕ) (old new : List ℕ) → code < size → size ≡ slice_index old var
    → new ≡ old → code < slice_index new var
code_low code size var old new low is same =
    let e = ap (λ (xs : List ℕ). slice_index xs var) same in omega arith

kids_long : (kids code size var : ℕ) (old new : List ℕ) → kids ≡ code → code ≤ size → size ≤ code
    → size ≡ slice_index old var → new ≡ old → kids ≡ slice_index new var
kids_long kids code size var old new long most whole is same =
    let e = ap (λ (xs : List ℕ). slice_index xs var) same in omega arith

level_back : (old new : Diagrams) (op : Operation) (a b n : ℕ) → Keeps old new → IsNode old a
    → IsNode old b → IsResult new op a b n
    → min (level_of old a) (level_of old b) ≤ level_of new n
level_back old new op a b n kept left right result =
    let left_kept = kept.levels a left in
    let right_kept = kept.levels b right in
    let level = result.level in
    omega arith

pub returns-in-Some-clause-value : goal.returns-in-Some-clause-value
returns-in-Some-clause-value t c = record {
  node = either_node c.args.self.now c.args.a c.args.b c.in-Some.node c.requires.a c.requires.b
      c.in-Some.ensures.either;
  value = λ codes fit. c.in-Some.ensures.value c.args.self.now codes;
}

pub returns-in-Some-clause-level : goal.returns-in-Some-clause-level
returns-in-Some-clause-level t c =
    either_level c.args.self.now c.args.a c.args.b c.in-Some.node c.in-Some.ensures.either

pub returns-in-Some-recall-clause-value : goal.returns-in-Some-recall-clause-value
returns-in-Some-recall-clause-value t c = record {
  node = c.in-Some-recall.ensures.node;
  value = c.in-Some-recall.ensures.value;
}

pub returns-in-Some-recall-clause-level : goal.returns-in-Some-recall-clause-level
returns-in-Some-recall-clause-level t c = c.in-Some-recall.ensures.level

pub first_variable-var-requires-clause-left : goal.first_variable-var-requires-clause-left
first_variable-var-requires-clause-left t c = rw c.in_default.is at c.settled.ensures.left

pub first_variable-var-requires-clause-right : goal.first_variable-var-requires-clause-right
first_variable-var-requires-clause-right t c = rw c.in_default.is at c.settled.ensures.right

pub loop-code-init : goal.loop-code-init
loop-code-init t c = record {
  kept = keeps_same c.args.self.now;
  parts = record {
    long = ap (λ (xs : List ℕ). length xs) c.in_ok-kids.ensures.items;
    nodes = λ code low. absurd (omega arith);
    later = λ code low. absurd (omega arith);
    values = λ code low codes fit is. absurd (omega arith);
  };
}

pub cofactor-left-requires-clause-node : goal.cofactor-left-requires-clause-node
cofactor-left-requires-clause-node t c =
    c.loop-code.invariant.kept.nodes c.args.a c.requires.a

pub cofactor-left-requires-clause-var : goal.cofactor-left-requires-clause-var
cofactor-left-requires-clause-var t c =
    subst (λ (xs : List ℕ). c.first_variable-var.result < length xs)
    (sym c.loop-code.invariant.kept.sizes) c.first_variable-var.ensures.var

pub cofactor-left-requires-clause-code : goal.cofactor-left-requires-clause-code
cofactor-left-requires-clause-code t c =
    code_low c.loop-code.code c.size-size.result c.first_variable-var.result c.args.self.now.sizes
    c.loop-code.self.sizes c.loop-code-test.true c.size-size.ensures
    c.loop-code.invariant.kept.sizes

pub cofactor-left-requires-clause-first : goal.cofactor-left-requires-clause-first
cofactor-left-requires-clause-first t c =
    (first_low c.args.self.now c.loop-code.self c.first_variable-var.result c.args.a c.args.b
    c.loop-code.invariant.kept c.requires.a c.requires.b c.first_variable-var.ensures.place).0

pub cofactor-right-requires-clause-node : goal.cofactor-right-requires-clause-node
cofactor-right-requires-clause-node t c =
    c.loop-code.invariant.kept.nodes c.args.b c.requires.b

pub cofactor-right-requires-clause-var : goal.cofactor-right-requires-clause-var
cofactor-right-requires-clause-var t c =
    subst (λ (xs : List ℕ). c.first_variable-var.result < length xs)
    (sym c.loop-code.invariant.kept.sizes) c.first_variable-var.ensures.var

pub cofactor-right-requires-clause-code : goal.cofactor-right-requires-clause-code
cofactor-right-requires-clause-code t c =
    code_low c.loop-code.code c.size-size.result c.first_variable-var.result c.args.self.now.sizes
    c.loop-code.self.sizes c.loop-code-test.true c.size-size.ensures
    c.loop-code.invariant.kept.sizes

pub cofactor-right-requires-clause-first : goal.cofactor-right-requires-clause-first
cofactor-right-requires-clause-first t c =
    (first_low c.args.self.now c.loop-code.self c.first_variable-var.result c.args.a c.args.b
    c.loop-code.invariant.kept c.requires.a c.requires.b c.first_variable-var.ensures.place).1

pub node-requires-clause-var : goal.node-requires-clause-var
node-requires-clause-var t c =
    subst (λ (xs : List ℕ). c.first_variable-var.result < length xs)
    (sym c.loop-code.invariant.kept.sizes) c.first_variable-var.ensures.var

pub node-requires-clause-kids : goal.node-requires-clause-kids
node-requires-clause-kids t c =
    kids_long (length c.deref.result.now) c.loop-code.code c.size-size.result
    c.first_variable-var.result c.args.self.now.sizes c.loop-code.self.sizes
    (ap (λ (xs : List ℕ). length xs) c.deref.ensures.value ∙ c.loop-code.invariant.parts.long)
    c.loop-code.auto.code-end c.loop-code-test.false c.size-size.ensures
    c.loop-code.invariant.kept.sizes

pub node-requires-clause-nodes : goal.node-requires-clause-nodes
node-requires-clause-nodes t c code low =
    let parts = c.loop-code.invariant.parts in
    let long = ap (λ (xs : List ℕ). length xs) c.deref.ensures.value ∙ parts.long in
    subst (λ (xs : List ℕ). IsNode c.loop-code.self (slice_index xs code))
    (sym c.deref.ensures.value) (parts.nodes code (subst (λ (n : ℕ). code < n) long low))

pub node-requires-clause-later : goal.node-requires-clause-later
node-requires-clause-later t c code low =
    let s = c.loop-code.self in
    let var = c.first_variable-var.result in
    let parts = c.loop-code.invariant.parts in
    let long = ap (λ (xs : List ℕ). length xs) c.deref.ensures.value ∙ parts.long in
    subst (λ (xs : List ℕ). place s.order var < level_of s (slice_index xs code))
    (sym c.deref.ensures.value)
    (subst (λ (order : List ℕ). place order var
    < level_of s (slice_index c.loop-code.kids.items code)) (sym c.loop-code.invariant.kept.order)
    (parts.later code (subst (λ (n : ℕ). code < n) long low)))

pub apply-requires : goal.apply-requires
apply-requires t c = (
  falls c.args.self.now c.loop-code.self c.first_variable-var.result c.args.a c.args.b
      c.cofactor-left.result c.cofactor-right.result t c.loop-code.invariant.kept
      c.first_variable-var.ensures.place c.cofactor-left.ensures.later
      c.cofactor-right.ensures.later c.decreases,
  (c.cofactor-left.ensures.node, c.cofactor-right.ensures.node),
)

pub returns-in_err-push-clause-kept : goal.returns-in_err-push-clause-kept
returns-in_err-push-clause-kept t c =
    keeps_trans c.args.self.now c.loop-code.self c.apply.new.self c.loop-code.invariant.kept
    c.apply.ensures.kept

pub loop-code-preserved : goal.loop-code-preserved
loop-code-preserved t c =
    let old = c.args.self.now in
    let s = c.loop-code.self in
    let new = c.apply.new.self in
    let op = c.args.op in
    let var = c.first_variable-var.result in
    let kept = c.loop-code.invariant.kept in
    let means = c.in_ok-apply.ensures.value in
    let parts = parts_keeps old s new op c.args.a c.args.b var c.loop-code.kids.items
    c.loop-code.code c.apply.ensures.kept c.loop-code.invariant.parts in
    let order = ap (λ (list : List ℕ). place list var) kept.order in
    let later : place old.order var < level_of new c.in_ok-apply.field-0 =
    let left = c.cofactor-left.ensures.later in
    let right = c.cofactor-right.ensures.later in
    let level = c.in_ok-apply.ensures.level in
    omega arith in
    let value : (codes : List ℕ) → IsTrue (fits old.sizes codes)
    → slice_index codes var ≡ c.loop-code.code
    → value_of new c.in_ok-apply.field-0 codes
    ≡ combine op (value_of old c.args.a codes) (value_of old c.args.b codes) = λ codes fit at.
    means.value codes
    (subst (λ (sizes : List ℕ). IsTrue (fits sizes codes))
    (sym (c.apply.ensures.kept.sizes ∙ kept.sizes)) fit)
    ∙ ap (λ (x : Bool). combine op x (value_of s c.cofactor-right.result codes))
    (sym (c.cofactor-left.ensures.value codes at) ∙ kept.values c.args.a codes c.requires.a)
    ∙ ap (combine op (value_of old c.args.a codes))
    (sym (c.cofactor-right.ensures.value codes at) ∙ kept.values c.args.b codes c.requires.b) in
    let all = parts_more old new op c.args.a c.args.b var c.loop-code.kids.items c.loop-code.code
    c.in_ok-apply.field-0 parts means.node later value in
    record {
      kept = keeps_trans old s new kept c.apply.ensures.kept;
      parts = subst (λ (kids : List ℕ). AreParts old new op c.args.a c.args.b var kids
          (c.loop-code.code + 1)) (sym {A = List ℕ} c.in_ok-push.ensures.items) all;
    }

pub remember-requires : goal.remember-requires
remember-requires t c =
    let old = c.args.self.now in
    let s = c.loop-code.self in
    let new = c.node.new.self in
    let n = c.in_ok-node.node in
    let op = c.args.op in
    let var = c.first_variable-var.result in
    let kept = c.loop-code.invariant.kept in
    let parts = subst
    (λ (kids : List ℕ). AreParts old s op c.args.a c.args.b var kids c.loop-code.code)
    (sym c.deref.ensures.value) c.loop-code.invariant.parts in
    let size : c.loop-code.code ≡ slice_index old.sizes var = let e = c.size-size.ensures in
    let f = c.loop-code-test.false in let g = c.loop-code.auto.code-end in omega arith in
    let means = parts_mean_one old s new op c.args.a c.args.b var c.deref.result.now
    c.loop-code.code n parts size c.first_variable-var.ensures.var
    (c.node.ensures.kept.sizes ∙ kept.sizes) c.in_ok-node.ensures.value in
    let order : place s.order var ≡ place old.order var =
    ap (λ (list : List ℕ). place list var) kept.order in
    let level : min (level_of old c.args.a) (level_of old c.args.b) ≤ level_of new n = let l =
    c.in_ok-node.ensures.level in let f = c.first_variable-var.ensures.place in omega arith in
    result_made old new op c.args.a c.args.b n (keeps_trans old s new kept c.node.ensures.kept)
    c.requires.a c.requires.b means level

pub returns-in_err-remember-clause-kept : goal.returns-in_err-remember-clause-kept
returns-in_err-remember-clause-kept t c =
    subst (Keeps c.args.self.now) (sym c.remember.ensures.same)
    (keeps_trans c.args.self.now c.loop-code.self c.node.new.self c.loop-code.invariant.kept
    c.node.ensures.kept)

pub returns-clause-kept : goal.returns-clause-kept
returns-clause-kept t c =
    subst (Keeps c.args.self.now) (sym c.remember.ensures.same)
    (keeps_trans c.args.self.now c.loop-code.self c.node.new.self c.loop-code.invariant.kept
    c.node.ensures.kept)

pub returns-clause-value : goal.returns-clause-value
returns-clause-value t c =
    let keeps : Keeps c.args.self.now c.remember.new.self =
    subst (Keeps c.args.self.now) (sym c.remember.ensures.same)
    (keeps_trans c.args.self.now c.loop-code.self c.node.new.self c.loop-code.invariant.kept
    c.node.ensures.kept) in
    result_means c.args.self.now c.remember.new.self c.args.op c.args.a c.args.b c.in_ok-node.node
    keeps c.requires.a c.requires.b c.remember.ensures.result

pub returns-in_err-apply-clause-kept : goal.returns-in_err-apply-clause-kept
returns-in_err-apply-clause-kept t c =
    keeps_trans c.args.self.now c.loop-code.self c.apply.new.self c.loop-code.invariant.kept
    c.apply.ensures.kept

pub returns-clause-level : goal.returns-clause-level
returns-clause-level t c =
    let keeps : Keeps c.args.self.now c.remember.new.self =
    subst (Keeps c.args.self.now) (sym c.remember.ensures.same)
    (keeps_trans c.args.self.now c.loop-code.self c.node.new.self c.loop-code.invariant.kept
    c.node.ensures.kept) in
    level_back c.args.self.now c.remember.new.self c.args.op c.args.a c.args.b c.in_ok-node.node
    keeps c.requires.a c.requires.b c.remember.ensures.result
