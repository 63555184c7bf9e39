use Rattle.std.proofs.Common.{slice_index}
use Rattle.std.proofs.lemmas.Option.{slice_get-get_or}
use Rattle.journal_chart.proofs.MarksAfter.{marks_more}
use Rattle.journal_chart.proofs.losses.next_marks.Goals as goal

pub loop-i-preserved : goal.loop-i-preserved
loop-i-preserved c =
    let inputs = c.args.inputs.now in
    let i = c.loop-i.i in
    marks_more c.args.p c.args.entry.now i (slice_index inputs i) c.get.result.now
    c.mark_after.result inputs c.args.marks.now c.loop-i.after c.push.new.self
    (slice_get-get_or inputs i 0 c.loop-i-test.true) c.get.ensures c.mark_after.ensures
    c.in_ok-push.ensures.ok c.loop-i.invariant
