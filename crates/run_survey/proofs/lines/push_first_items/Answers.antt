use Rattle.std.proofs.Common.{ℕ, ◌++◌, flat_map, take, min, ap, ◌∙◌, arith}
use Rattle.std.proofs.lemmas.Bool.{ne_eqb}
use Rattle.polis_base.specs.Pieces.{pieces}
use Rattle.run_survey.specs.SurveyLines.{line_count, spaced_item}
use Rattle.run_survey.proofs.FirstItems.{few_items, many_items}
use Rattle.run_survey.proofs.lines.push_first_items.Goals.{In_ok-push_items}
use Rattle.run_survey.proofs.lines.push_first_items.Goals as goal

pub returns-in_ok-push : goal.returns-in_ok-push
returns-in_ok-push c =
    let text = c.args.text.now in
    let count = c.count_lines-count.ensures in
    let some = c.if-count-eq0.false in
    many_items text c.args.into.now c.push_items.new.into
    (ne_eqb (line_count text) 0 (λ e. absurd (omega arith)))
    (c.in_ok-push_items.ensures
    ∙ ap (λ (n : ℕ). c.args.into.now ++ flat_map spaced_item (take n (pieces 10 text)))
    (c.min.ensures ∙ ap (λ (n : ℕ). min n 8) count))
    c.push-then-count-gt-SHOWN.new.self
    (let many = c.if-count-gt-SHOWN.true in omega arith) c.in_ok-push.ensures.ok

pub returns-else-count-gt-SHOWN : goal.returns-else-count-gt-SHOWN
returns-else-count-gt-SHOWN c =
    let text = c.args.text.now in
    let count = c.count_lines-count.ensures in
    let some = c.if-count-eq0.false in
    few_items text c.args.into.now c.push_items.new.into
    (ne_eqb (line_count text) 0 (λ e. absurd (omega arith)))
    (c.in_ok-push_items.ensures
    ∙ ap (λ (n : ℕ). c.args.into.now ++ flat_map spaced_item (take n (pieces 10 text)))
    (c.min.ensures ∙ ap (λ (n : ℕ). min n 8) count))
    (let few = c.if-count-gt-SHOWN.false in omega arith)
