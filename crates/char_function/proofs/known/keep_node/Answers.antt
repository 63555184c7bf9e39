use Rattle.std.proofs.Common.{◌≡◌, ◌∙◌, ℕ, Some, length, slice_index, slice_set, sym, ap, subst, arith}
use Rattle.char_function.specs.inner.Known.{AreKnown}
use Rattle.char_function.specs.inner.Points.{points}
use Rattle.decision_diagram.proofs.ListItems.{read}
use Rattle.char_function.proofs.AreKnown.{one_low, group_outcome, known_more}
use Rattle.char_function.proofs.IsTableOf.{numbers_long, number_low}
use Rattle.char_function.proofs.known.keep_node.Goals as goal

pub set-requires : goal.set-requires
set-requires c =
    let m = c.args.m.now in
    let t = c.args.table.now in
    let group = c.args.group.now in
    let n = numbers_long m t c.requires.table in
    let one : length group ≡ 1 = c.if-group-eq1.true in
    let low = one_low (points m) group one c.requires.group in
    let e = read t.numbers (slice_index group 0) c.get.result.now 0 c.get.ensures in
    let f = number_low m t c.requires.table (slice_index group 0) (omega arith) in
    let g = c.requires.known.long in
    omega arith

pub returns-then-group-eq1 : goal.returns-then-group-eq1
returns-then-group-eq1 c =
    let m = c.args.m.now in
    let t = c.args.table.now in
    let s = c.args.store.now in
    let group = c.args.group.now in
    let start = c.args.start in
    let n = numbers_long m t c.requires.table in
    let one : length group ≡ 1 = c.if-group-eq1.true in
    let low = one_low (points m) group one c.requires.group in
    let e = read t.numbers (slice_index group 0) c.get.result.now 0 c.get.ensures in
    let f = number_low m t c.requires.table (slice_index group 0) (omega arith) in
    let g = c.requires.known.long in
    let k = slice_index t.numbers (slice_index group 0) in
    let made = known_more s (length m.vars) start t.outcomes c.args.known.now k c.args.node
    c.requires.known (omega arith)
    (record {
      node = c.requires.value.node;
      value = λ codes fit. c.requires.value.value codes fit
          ∙ group_outcome m t c.requires.table s.order start c.requires.start group codes one
          c.requires.group;
    })
    c.requires.level in
    subst (AreKnown s (length m.vars) start t.outcomes)
    (sym (c.set.ensures ∙ ap (λ (i : ℕ). slice_set c.args.known.now i (Some c.args.node))
    (sym e))) made
