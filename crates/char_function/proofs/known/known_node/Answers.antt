use Rattle.std.proofs.Common.{◌≡◌, ◌∙◌, ◌≤◌, ℕ, None, length, get_or, slice_index, sym, ap, arith}
use Rattle.decision_diagram.specs.Diagrams.{Means, level_of}
use Rattle.char_function.specs.inner.Groups.{some_agrees}
use Rattle.char_function.specs.inner.Points.{points}
use Rattle.decision_diagram.proofs.ListItems.{read}
use Rattle.char_function.proofs.AreKnown.{one_low, group_outcome, some_known}
use Rattle.char_function.proofs.IsTableOf.{numbers_long, number_low}
use Rattle.char_function.proofs.known.known_node.Goals as goal

pub get-requires-2 : goal.get-requires-2
get-requires-2 c =
    let m = c.args.m.now in
    let t = c.args.table.now in
    let group = c.args.group.now in
    let n = numbers_long m t c.requires.table in
    let one : length group ≡ 1 = c.if-group-ne1.false in
    let low = one_low (points m) group one c.requires.group in
    let e = read t.numbers (slice_index group 0) c.get.result.now 0 c.get.ensures in
    let f = number_low m t c.requires.table (slice_index group 0) (omega arith) in
    let g = c.requires.known.long in
    omega arith

pub returns-clause-value : goal.returns-clause-value
returns-clause-value c =
    let m = c.args.m.now in
    let t = c.args.table.now in
    let s = c.args.store.now in
    let group = c.args.group.now in
    let start = c.args.start in
    let one : length group ≡ 1 = c.if-group-ne1.false in
    let e = read t.numbers (slice_index group 0) c.get.result.now 0 c.get.ensures in
    let is : get_or c.args.known.now (slice_index t.numbers (slice_index group 0)) None
    ≡ c.get-2.result.now =
    ap (λ (k : ℕ). get_or c.args.known.now k None) e
    ∙ read c.args.known.now c.get.result.now c.get-2.result.now None c.get-2.ensures in
    some_known c.get-2.result.now (λ n. Means s n (some_agrees (points m) s.order start group))
    (λ n some.
    let means = c.requires.known.means (slice_index t.numbers (slice_index group 0)) n
    (is ∙ some) in
    record {
      node = means.node;
      value = λ codes fit. means.value codes fit
          ∙ sym (group_outcome m t c.requires.table s.order start c.requires.start group codes one
          c.requires.group);
    })

pub returns-clause-level : goal.returns-clause-level
returns-clause-level c =
    let t = c.args.table.now in
    let s = c.args.store.now in
    let group = c.args.group.now in
    let e = read t.numbers (slice_index group 0) c.get.result.now 0 c.get.ensures in
    let is : get_or c.args.known.now (slice_index t.numbers (slice_index group 0)) None
    ≡ c.get-2.result.now =
    ap (λ (k : ℕ). get_or c.args.known.now k None) e
    ∙ read c.args.known.now c.get.result.now c.get-2.result.now None c.get-2.ensures in
    some_known c.get-2.result.now (λ n. c.args.start ≤ level_of s n)
    (λ n some. c.requires.known.levels (slice_index t.numbers (slice_index group 0)) n
    (is ∙ some))
