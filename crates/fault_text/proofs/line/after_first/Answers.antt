use Rattle.std.proofs.Common.{◌≡◌, ℕ, List, [], suc, ◌+◌, ◌∙◌, ap, sym, drop, arith}
use Rattle.std.specs.List.{prefix_len}
use Rattle.std.proofs.lemmas.List.{take_rest}
use Rattle.std.proofs.lemmas.List.Sums.{prefix_len-le-length}
use Rattle.fault_text.specs.Positions.{is_inner, begun_lines}
use Rattle.fault_text.proofs.Lines.{more_lines, last_begun}
use Rattle.fault_text.proofs.line.after_first.Goals as goal

pub overflow_add-result : goal.overflow_add-result
overflow_add-result c =
    grind (arith, prefix_len-le-length is_inner c.args.text.now, c.line_len-len.ensures)

pub returns-then-len-text-clause-none : goal.returns-then-len-text-clause-none
returns-then-len-text-clause-none c =
    let len = c.line_len-len.ensures in
    let all = c.if-len-text.true in
    last_begun c.args.text.now (omega arith)

pub slice_bounds-result-count : goal.slice_bounds-result-count
slice_bounds-result-count c =
    let short = prefix_len-le-length is_inner c.args.text.now in
    let len = c.line_len-len.ensures in
    let some = c.if-len-text.false in
    omega arith

pub slice_bounds-result-start : goal.slice_bounds-result-start
slice_bounds-result-start c =
    let short = prefix_len-le-length is_inner c.args.text.now in
    let len = c.line_len-len.ensures in
    let some = c.if-len-text.false in
    omega arith

pub returns-clause-some : goal.returns-clause-some
returns-clause-some c =
    let short = prefix_len-le-length is_inner c.args.text.now in
    let len = c.line_len-len.ensures in
    let some = c.if-len-text.false in
    let is : suc (prefix_len is_inner c.args.text.now) ≡ c.line_len-len.result + 1 = omega arith in
    more_lines [] c.args.text.now (omega arith)
    ∙ ap (λ (k : ℕ). begun_lines (drop k c.args.text.now)) is
    ∙ sym (ap (λ (xs : List ℕ). begun_lines xs)
    (take_rest c.args.text.now (c.line_len-len.result + 1)))
