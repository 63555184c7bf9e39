use Rattle.std.proofs.Common.{◌≡◌, ◌∙◌, ◌+◌, ◌<◌, ◌≤◌, ℕ, false, List, [], ◌∷◌, length, slice_index, refl, sym, ap, subst, arith}
use Rattle.domains.specs.Orders.{place}
use Rattle.decision_diagram.specs.Diagrams.{Means, level_of}
use Rattle.char_function.specs.inner.Groups.{some_agrees, with_code}
use Rattle.char_function.specs.inner.Known.{OnlyResults, AreKnown}
use Rattle.char_function.specs.inner.Points.{points}
use Rattle.char_function.proofs.AreKnown.{known_kept}
use Rattle.decision_diagram.proofs.ListItems.{read}
use Rattle.char_function.proofs.GroupNodes.{AreKids, at_var, end_agrees, kids_more, node_means, part_is, part_group}
use Rattle.decision_diagram.proofs.Growth.{keeps_same, keeps_trans}
use Rattle.char_function.proofs.root.+build.Goals as goal
use Rattle.char_function.proofs.root.+build.Goals.{then-place-start-2, else-place-start-2}

-- no snapshot is of a group of none
none_agrees : (points : List (List ℕ)) (order : List ℕ) (place : ℕ) (group codes : List ℕ)
    → length group ≡ 0 → some_agrees points order place group codes ≡ false
none_agrees points order place [] codes none = refl
none_agrees points order place (i ∷ group) codes none = absurd (omega arith)

pub returns-then-group-eq0-clause-value : goal.returns-then-group-eq0-clause-value
returns-then-group-eq0-clause-value t c = record {
  node = c.constant.ensures.node;
  value = λ codes fit. c.constant.ensures.value codes
      ∙ sym (none_agrees (points c.args.making.now.machine.now) c.args.store.now.order c.args.place
      c.args.group.now codes c.if-group-eq0.true);
}

pub returns-then-group-eq0-clause-known : goal.returns-then-group-eq0-clause-known
returns-then-group-eq0-clause-known t c = c.requires.known

pub returns-then-group-eq0-clause-level : goal.returns-then-group-eq0-clause-level
returns-then-group-eq0-clause-level t c =
    subst (λ (k : ℕ). c.args.place ≤ k) (sym c.constant.ensures.level) c.requires.place

pub returns-then-place-len-clause-known : goal.returns-then-place-len-clause-known
returns-then-place-len-clause-known t c = c.requires.known

pub returns-then-place-len-clause-level : goal.returns-then-place-len-clause-level
returns-then-place-len-clause-level t c =
    subst (λ (k : ℕ). c.args.place ≤ k) (sym c.constant-then-place-len.ensures.level)
    c.requires.place

pub known_node-requires-clause-group : goal.known_node-requires-clause-group
known_node-requires-clause-group t c = c.requires.group

pub known_node-requires-clause-known : goal.known_node-requires-clause-known
known_node-requires-clause-known t c = c.requires.known

pub known_node-requires-clause-start : goal.known_node-requires-clause-start
known_node-requires-clause-start t c = c.requires.making.start

pub known_node-requires-clause-table : goal.known_node-requires-clause-table
known_node-requires-clause-table t c = c.requires.making.table

pub returns-in-Some-clause-value : goal.returns-in-Some-clause-value
returns-in-Some-clause-value t c =
    subst (λ (k : ℕ). Means c.args.store.now c.in-Some.node
    (some_agrees (points c.args.making.now.machine.now) c.args.store.now.order k
    c.args.group.now)) (sym c.if-place-start.true) c.in-Some.ensures.value

pub returns-in-Some-clause-level : goal.returns-in-Some-clause-level
returns-in-Some-clause-level t c =
    subst (λ (k : ℕ). k ≤ level_of c.args.store.now c.in-Some.node) (sym c.if-place-start.true)
    c.in-Some.ensures.level

pub returns-in-Some-clause-known : goal.returns-in-Some-clause-known
returns-in-Some-clause-known t c = c.requires.known

pub returns-then-place-len-clause-value : goal.returns-then-place-len-clause-value
returns-then-place-len-clause-value t c =
    let s = c.args.store.now in
    let points = points c.args.making.now.machine.now in
    let end : c.args.place ≡ length s.order =
    c.if-place-len.true ∙ c.len.ensures.len
    ∙ ap (λ (xs : List ℕ). length xs) c.requires.making.order in
    record {
      node = c.constant-then-place-len.ensures.node;
      value = λ codes fit. c.constant-then-place-len.ensures.value codes
          ∙ sym (end_agrees points s.order c.args.place c.args.group.now codes c.if-group-eq0.false
          end);
    }

low_in_order : (order own : List ℕ) (place long : ℕ) → order ≡ own → place ≤ length own
    → long ≡ length order → (place ≡ long → ⊥) → place < length order
low_in_order order own place long same most is other =
    let e = ap (λ (xs : List ℕ). length xs) same in omega arith

pub get-item-requires : goal.get-item-requires
get-item-requires t c =
    low_in_order c.args.making.now.order.now c.args.store.now.order c.args.place c.len.result
    c.requires.making.order c.requires.place c.len.ensures.len c.if-place-len.false

pub get-size-requires : goal.get-size-requires
get-size-requires t c =
    let at = at_var c.args.store.now c.args.making.now.order.now c.args.place c.get-item.result.now
    c.len.result c.same_value_same_node.ensures.reduced c.requires.making.order c.requires.place
    c.if-place-len.false c.len.ensures.len c.get-item.ensures in
    let inside = at.inside in
    let same = ap (λ (xs : List ℕ). length xs) c.requires.making.sizes in
    let e = c.from.ensures in
    omega arith

pub parts_of-requires-clause-item : goal.parts_of-requires-clause-item
parts_of-requires-clause-item t c =
    let at = at_var c.args.store.now c.args.making.now.order.now c.args.place c.get-item.result.now
    c.len.result c.same_value_same_node.ensures.reduced c.requires.making.order c.requires.place
    c.if-place-len.false c.len.ensures.len c.get-item.ensures in
    let inside = at.inside in
    let same = ap (λ (xs : List ℕ). length xs) c.requires.making.all_sizes in
    omega arith

pub parts_of-requires-clause-size : goal.parts_of-requires-clause-size
parts_of-requires-clause-size t c =
    sym (read c.args.making.now.sizes.now c.from.result c.get-size.result.now 0 c.get-size.ensures)
    ∙ ap (slice_index c.args.making.now.sizes.now) c.from.ensures
    ∙ ap (λ (xs : List ℕ). slice_index xs c.get-item.result.now)
    (c.requires.making.sizes ∙ c.requires.making.all_sizes)

pub parts_of-requires-clause-table : goal.parts_of-requires-clause-table
parts_of-requires-clause-table t c = c.requires.making.table

pub parts_of-requires-clause-group : goal.parts_of-requires-clause-group
parts_of-requires-clause-group t c = c.requires.group

pub loop-part-init : goal.loop-part-init
loop-part-init t c = record {
  kept = keeps_same c.args.store.now;
  kids = record {
    long = ap (λ (xs : List ℕ). length xs) c.new-kids.ensures.items;
    means = λ code low. absurd (omega arith);
    levels = λ code low. absurd (omega arith);
  };
  known = c.requires.known;
}

pub build-requires : goal.build-requires
build-requires t c =
    let m = c.args.making.now.machine.now in
    let points = points c.args.making.now.machine.now in
    let item = c.get-item.result.now in
    let group = c.args.group.now in
    let i = c.loop-part.part-index in
    let parts = c.in_ok-parts.parts.items in
    let is : c.part-item.result ≡ with_code points item group i =
    part_is points item c.get-size.result.now group parts c.deref-part-items.result.now i
    c.part-item.result c.part-item.result c.deref-part-items.ensures.value
    c.in_ok-parts.ensures.long c.in_ok-parts.ensures.parts c.loop-part-test.true
    c.part-item.is in
    let at = at_var c.args.store.now c.args.making.now.order.now c.args.place item c.len.result
    c.same_value_same_node.ensures.reduced c.requires.making.order c.requires.place
    c.if-place-len.false c.len.ensures.len c.get-item.ensures in
    let low = at.low in
    let kept = c.loop-part.invariant.kept in
    let long = ap (λ (xs : List ℕ). length xs) kept.order in
    let d = c.decreases in (
      omega arith,
      (
        omega arith,
        (
          record {
            order = c.requires.making.order ∙ sym kept.order;
            sizes = c.requires.making.sizes ∙ sym kept.sizes;
            all_sizes = kept.sizes ∙ c.requires.making.all_sizes;
            table = c.requires.making.table;
            start = subst (λ (order : List ℕ). OnlyResults (length m.vars) order
                c.args.making.now.start)
                (sym kept.order) c.requires.making.start;
          },
          (
            c.loop-part.invariant.known,
            part_group points item group i c.as_slice.result.now
                c.requires.group (c.as_slice.ensures ∙ is),
          ),
        ),
      ),
    )

pub returns-in_err-build-clause-kept : goal.returns-in_err-build-clause-kept
returns-in_err-build-clause-kept t c =
    keeps_trans c.args.store.now c.loop-part.store c.build.new.store c.loop-part.invariant.kept
    c.build.ensures.kept

pub returns-in_err-push-clause-kept : goal.returns-in_err-push-clause-kept
returns-in_err-push-clause-kept t c =
    keeps_trans c.args.store.now c.loop-part.store c.build.new.store c.loop-part.invariant.kept
    c.build.ensures.kept

pub loop-part-preserved : goal.loop-part-preserved
loop-part-preserved t c =
    let old = c.args.store.now in
    let s = c.loop-part.store in
    let new = c.build.new.store in
    let points = points c.args.making.now.machine.now in
    let place = c.args.place in
    let item = c.get-item.result.now in
    let group = c.args.group.now in
    let i = c.loop-part.part-index in
    let n = c.in_ok-build.field-0 in
    let parts = c.in_ok-parts.parts.items in
    let is : c.part-item.result ≡ with_code points item group i =
    part_is points item c.get-size.result.now group parts c.deref-part-items.result.now i
    c.part-item.result c.part-item.result c.deref-part-items.ensures.value
    c.in_ok-parts.ensures.long c.in_ok-parts.ensures.parts c.loop-part-test.true
    c.part-item.is in
    let kept : c.as_slice.result.now ≡ with_code points item group i = c.as_slice.ensures ∙ is in
    let means : Means new n
    (some_agrees points s.order (place + 1) (with_code points item group i)) =
    subst (λ (g : List ℕ). Means new n (some_agrees points s.order (place + 1) g)) kept
    c.in_ok-build.ensures.value in
    record {
      kept = keeps_trans old s new c.loop-part.invariant.kept c.build.ensures.kept;
      kids = subst (λ (kids : List ℕ). AreKids points old new place item group kids (i + 1))
          (sym c.in_ok-push.ensures.items)
          (kids_more points old s new place item group c.loop-part.kids.items i n
          c.loop-part.invariant.kids c.loop-part.invariant.kept c.build.ensures.kept means
          c.in_ok-build.ensures.level);
      known = c.in_ok-build.ensures.known;
    }

pub node-requires-clause-var : goal.node-requires-clause-var
node-requires-clause-var t c =
    let at = at_var c.args.store.now c.args.making.now.order.now c.args.place c.get-item.result.now
    c.len.result c.same_value_same_node.ensures.reduced c.requires.making.order c.requires.place
    c.if-place-len.false c.len.ensures.len c.get-item.ensures in
    let inside = at.inside in
    let same = ap (λ (xs : List ℕ). length xs) c.loop-part.invariant.kept.sizes in
    omega arith

-- all parts are gone through
pub node-requires-clause-kids : goal.node-requires-clause-kids
node-requires-clause-kids t c =
    let item = c.get-item.result.now in
    let long : length c.loop-part.kids.items ≡ c.loop-part.part-index =
    c.loop-part.invariant.kids.long in
    let whole : length c.deref.result.now ≡ length c.loop-part.kids.items =
    ap (λ (xs : List ℕ). length xs) c.deref.ensures.value in
    let e : slice_index c.args.making.now.sizes.now c.from.result ≡ c.get-size.result.now =
    read c.args.making.now.sizes.now c.from.result c.get-size.result.now 0 c.get-size.ensures in
    let f : slice_index c.loop-part.store.sizes item
    ≡ slice_index c.args.making.now.sizes.now c.from.result =
    ap (λ (xs : List ℕ). slice_index xs item)
    (c.loop-part.invariant.kept.sizes ∙ sym c.requires.making.sizes)
    ∙ ap (slice_index c.args.making.now.sizes.now) (sym c.from.ensures) in
    let done = c.loop-part-test.false in
    let most = c.loop-part.auto.part-index-end in
    let parts = c.in_ok-parts.ensures.long in
    let items = ap (λ (xs : List (List ℕ)). length xs) c.deref-part-items.ensures.value in
    omega arith

pub node-requires-clause-nodes : goal.node-requires-clause-nodes
node-requires-clause-nodes t c code low =
    let kids = c.loop-part.kids.items in
    let whole : length c.deref.result.now ≡ length kids =
    ap (λ (xs : List ℕ). length xs) c.deref.ensures.value in
    let long : length kids ≡ c.loop-part.part-index = c.loop-part.invariant.kids.long in
    let same : slice_index c.deref.result.now code ≡ slice_index kids code =
    ap (λ (xs : List ℕ). slice_index xs code) c.deref.ensures.value in
    let node = (c.loop-part.invariant.kids.means code (omega arith)).node in
    omega arith

pub node-requires-clause-later : goal.node-requires-clause-later
node-requires-clause-later t c code low =
    let item = c.get-item.result.now in
    let s = c.loop-part.store in
    let kids = c.loop-part.kids.items in
    let at = at_var c.args.store.now c.args.making.now.order.now c.args.place item c.len.result
    c.same_value_same_node.ensures.reduced c.requires.making.order c.requires.place
    c.if-place-len.false c.len.ensures.len c.get-item.ensures in
    let here : place s.order item ≡ c.args.place =
    ap (λ (xs : List ℕ). place xs item) c.loop-part.invariant.kept.order ∙ at.place in
    let same : level_of s (slice_index c.deref.result.now code)
    ≡ level_of s (slice_index kids code) =
    ap (λ (xs : List ℕ). level_of s (slice_index xs code)) c.deref.ensures.value in
    let whole : length c.deref.result.now ≡ length kids =
    ap (λ (xs : List ℕ). length xs) c.deref.ensures.value in
    let long : length kids ≡ c.loop-part.part-index = c.loop-part.invariant.kids.long in
    let level = c.loop-part.invariant.kids.levels code (omega arith) in
    omega arith

pub returns-clause-kept : goal.returns-clause-kept
returns-clause-kept t c =
    keeps_trans c.args.store.now c.loop-part.store c.node.new.self c.loop-part.invariant.kept
    c.node.ensures.kept

pub returns-in_err-node-clause-kept : goal.returns-in_err-node-clause-kept
returns-in_err-node-clause-kept t c =
    keeps_trans c.args.store.now c.loop-part.store c.node.new.self c.loop-part.invariant.kept
    c.node.ensures.kept

pub keep_node-requires-clause-table : goal.keep_node-requires-clause-table
keep_node-requires-clause-table t c = c.requires.making.table

pub keep_node-requires-clause-group : goal.keep_node-requires-clause-group
keep_node-requires-clause-group t c = c.requires.group

pub keep_node-requires-clause-start : goal.keep_node-requires-clause-start
keep_node-requires-clause-start t c =
    subst (λ (order : List ℕ).
    OnlyResults (length c.args.making.now.machine.now.vars) order c.args.making.now.start)
    (sym (c.node.ensures.kept.order ∙ c.loop-part.invariant.kept.order)) c.requires.making.start

pub keep_node-requires-clause-known : goal.keep_node-requires-clause-known
keep_node-requires-clause-known t c =
    known_kept c.loop-part.store c.node.new.self (length c.args.making.now.machine.now.vars)
    c.args.making.now.start c.args.making.now.table.now.outcomes c.loop-part.known
    c.node.ensures.kept c.loop-part.invariant.known

pub keep_node-requires-clause-value : goal.keep_node-requires-clause-value
keep_node-requires-clause-value t c =
    let item = c.get-item.result.now in
    let old = c.args.store.now in
    let s = c.loop-part.store in
    let points = points c.args.making.now.machine.now in
    let at = at_var old c.args.making.now.order.now c.args.place item c.len.result
    c.same_value_same_node.ensures.reduced c.requires.making.order c.requires.place
    c.if-place-len.false c.len.ensures.len c.get-item.ensures in
    let kids : AreKids points old s c.args.place item c.args.group.now c.deref.result.now
    c.loop-part.part-index =
    subst (λ (kids : List ℕ). AreKids points old s c.args.place item c.args.group.now kids
    c.loop-part.part-index) (sym c.deref.ensures.value) c.loop-part.invariant.kids in
    let e : slice_index c.args.making.now.sizes.now c.from.result ≡ c.get-size.result.now =
    read c.args.making.now.sizes.now c.from.result c.get-size.result.now 0 c.get-size.ensures in
    let f : slice_index old.sizes item ≡ slice_index c.args.making.now.sizes.now c.from.result =
    ap (λ (xs : List ℕ). slice_index xs item) (sym c.requires.making.sizes)
    ∙ ap (slice_index c.args.making.now.sizes.now) (sym c.from.ensures) in
    let size : c.loop-part.part-index ≡ slice_index old.sizes item =
    let done = c.loop-part-test.false in
    let most = c.loop-part.auto.part-index-end in
    let parts = c.in_ok-parts.ensures.long in
    let items = ap (λ (xs : List (List ℕ)). length xs) c.deref-part-items.ensures.value in
    omega arith in
    subst (λ (i : ℕ). Means c.node.new.self c.in_ok-node.node
    (some_agrees points c.node.new.self.order i c.args.group.now)) c.if-place-start-2.true
    (subst (λ (order : List ℕ). Means c.node.new.self c.in_ok-node.node
    (some_agrees points order c.args.place c.args.group.now))
    (sym (c.node.ensures.kept.order ∙ c.loop-part.invariant.kept.order))
    (node_means points old s c.node.new.self c.args.place item c.loop-part.part-index
    c.args.group.now c.deref.result.now c.in_ok-node.node at.low at.is at.inside size
    c.loop-part.invariant.kept c.node.ensures.kept kids c.in_ok-node.ensures.value))

pub keep_node-requires-clause-level : goal.keep_node-requires-clause-level
keep_node-requires-clause-level t c =
    let item = c.get-item.result.now in
    let s = c.loop-part.store in
    let at = at_var c.args.store.now c.args.making.now.order.now c.args.place item c.len.result
    c.same_value_same_node.ensures.reduced c.requires.making.order c.requires.place
    c.if-place-len.false c.len.ensures.len c.get-item.ensures in
    let here : place s.order item ≡ c.args.place =
    ap (λ (xs : List ℕ). place xs item) c.loop-part.invariant.kept.order ∙ at.place in
    let level = c.in_ok-node.ensures.level in
    let f = c.if-place-start-2.true in
    let g = c.node.ensures.kept.order in
    omega arith

pub returns-clause-value : goal.returns-clause-value
returns-clause-value t c =
    let item = c.get-item.result.now in
    let old = c.args.store.now in
    let s = c.loop-part.store in
    let points = points c.args.making.now.machine.now in
    let at = at_var old c.args.making.now.order.now c.args.place item c.len.result
    c.same_value_same_node.ensures.reduced c.requires.making.order c.requires.place
    c.if-place-len.false c.len.ensures.len c.get-item.ensures in
    let kids : AreKids points old s c.args.place item c.args.group.now c.deref.result.now
    c.loop-part.part-index =
    subst (λ (kids : List ℕ). AreKids points old s c.args.place item c.args.group.now kids
    c.loop-part.part-index) (sym c.deref.ensures.value) c.loop-part.invariant.kids in
    let e : slice_index c.args.making.now.sizes.now c.from.result ≡ c.get-size.result.now =
    read c.args.making.now.sizes.now c.from.result c.get-size.result.now 0 c.get-size.ensures in
    let f : slice_index old.sizes item ≡ slice_index c.args.making.now.sizes.now c.from.result =
    ap (λ (xs : List ℕ). slice_index xs item) (sym c.requires.making.sizes)
    ∙ ap (slice_index c.args.making.now.sizes.now) (sym c.from.ensures) in
    let size : c.loop-part.part-index ≡ slice_index old.sizes item =
    let done = c.loop-part-test.false in
    let most = c.loop-part.auto.part-index-end in
    let parts = c.in_ok-parts.ensures.long in
    let items = ap (λ (xs : List (List ℕ)). length xs) c.deref-part-items.ensures.value in
    omega arith in
    node_means points old s c.node.new.self c.args.place item c.loop-part.part-index
    c.args.group.now c.deref.result.now c.in_ok-node.node at.low at.is at.inside size
    c.loop-part.invariant.kept c.node.ensures.kept kids c.in_ok-node.ensures.value

pub returns-clause-level : goal.returns-clause-level
returns-clause-level t c =
    let item = c.get-item.result.now in
    let s = c.loop-part.store in
    let at = at_var c.args.store.now c.args.making.now.order.now c.args.place item c.len.result
    c.same_value_same_node.ensures.reduced c.requires.making.order c.requires.place
    c.if-place-len.false c.len.ensures.len c.get-item.ensures in
    let here : place s.order item ≡ c.args.place =
    ap (λ (xs : List ℕ). place xs item) c.loop-part.invariant.kept.order ∙ at.place in
    let level = c.in_ok-node.ensures.level in
    omega arith

pub returns-clause-known : goal.returns-clause-known
returns-clause-known t c =
    let m = c.args.making.now.machine.now in
    let start = c.args.making.now.start in
    let outcomes = c.args.making.now.table.now.outcomes in
    let s = c.loop-part.store in
    let new = c.node.new.self in
    elim c.if-place-start-2.branch [
      | then-place-start-2 w ↦ subst (AreKnown new (length m.vars) start outcomes) (sym w.known-is)
          w.keep_node.ensures
      | else-place-start-2 w ↦ subst (AreKnown new (length m.vars) start outcomes) (sym w.known-is)
          (known_kept s new (length m.vars) start outcomes c.loop-part.known c.node.ensures.kept
          c.loop-part.invariant.known)
    ]
