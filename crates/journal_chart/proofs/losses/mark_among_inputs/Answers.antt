use Rattle.std.proofs.Common.{ℕ, slice_index, Some, ap, sym, ◌∙◌, arith}
use Rattle.std.proofs.lemmas.Option.{slice_get-get_or}
use Rattle.journal_chart.proofs.MarksAfter.{mark_here, mark_later}
use Rattle.journal_chart.proofs.losses.mark_among_inputs.Goals as goal

pub returns-then-inputs-i : goal.returns-then-inputs-i
returns-then-inputs-i c =
    let inputs = c.args.inputs.now in
    let i = c.loop-i.i in
    sym (mark_here c.args.event i c.get.result.now inputs c.args.marks.now
    (slice_get-get_or inputs i 0 c.loop-i-test.true
    ∙ ap (λ (n : ℕ). Some n) c.if-inputs-i.true) c.get.ensures)
    ∙ c.loop-i.invariant

pub loop-i-preserved : goal.loop-i-preserved
loop-i-preserved c =
    let inputs = c.args.inputs.now in
    let i = c.loop-i.i in
    sym (mark_later c.args.event i (slice_index inputs i) inputs c.args.marks.now
    (slice_get-get_or inputs i 0 c.loop-i-test.true)
    (λ e. omega (arith, e, c.if-inputs-i.false)) c.requires)
    ∙ c.loop-i.invariant
