use Rattle.std.proofs.Common.{◌≡◌, ◌∙◌, sym, ap}
use Rattle.journal_text.specs.Lines.{as_said}
use Rattle.journal_text.proofs.LineSteps.{line_stopped, last_said, one_more_read, read_at_last, fault_at_last}
use Rattle.journal_text.proofs.read.read_lines.Goals as goal

pub returns-in-Err-clause-fault : goal.returns-in-Err-clause-fault
returns-in-Err-clause-fault c = λ fault e other.
    let same : c.fault_at.result ≡ fault = cc in
    line_stopped c.args.index.now.net.now c.args.stamped c.args.text.now c.loop-after.stamps
    c.loop-after.journal c.loop-after.rest.now _ c.in-Some.after.now c.in-Err.stop fault
    c.loop-after.invariant (rw c.in-Some.is at c.next_line.ensures.prefix)
    (λ kind is. rw c.len.ensures at (c.in-Err.ensures.fault kind (cc)))
    (rw c.len-line.ensures at (sym c.fault_at.ensures ∙ same)) other

pub loop-after-preserved : goal.loop-after-preserved
loop-after-preserved c =
    one_more_read c.args.index.now.net.now c.args.stamped c.args.text.now c.loop-after.stamps
    c.loop-after.journal c.loop-after.rest.now _ c.in-Some.after.now c.in-Ok-More.stamp
    c.in-Ok-More.entry _ _ c.loop-after.invariant
    (rw c.in-Some.is at c.next_line.ensures.prefix)
    (rw c.len.ensures at (c.in-Ok-More.ensures.ok ∙ ap as_said c.in-Ok-More.field-0-is))
    c.in-Ok.ensures.stamps c.in-Ok.ensures.journal

pub returns-in-Ok-Last-clause-ok : goal.returns-in-Ok-Last-clause-ok
returns-in-Ok-Last-clause-ok c =
    let is = last_said c.args.index.now.net.now c.args.stamped c.args.text.now c.loop-after.stamps
    c.loop-after.journal c.loop-after.rest.now _ c.in-Some.after.now c.in-Ok-Last.complete
    c.loop-after.invariant (rw c.in-Some.is at c.next_line.ensures.prefix)
    (rw c.len.ensures at (c.in-Ok-Last.ensures.ok ∙ ap as_said c.in-Ok-Last.field-0-is)) in
    read_at_last c.args.index.now.net.now c.args.stamped c.args.text.now _ c.finish.result is
    (rw c.len-line.ensures at c.finish.ensures.ok)

pub returns-in-Ok-Last-clause-fault : goal.returns-in-Ok-Last-clause-fault
returns-in-Ok-Last-clause-fault c = λ fault e other.
    let is = last_said c.args.index.now.net.now c.args.stamped c.args.text.now c.loop-after.stamps
    c.loop-after.journal c.loop-after.rest.now _ c.in-Some.after.now c.in-Ok-Last.complete
    c.loop-after.invariant (rw c.in-Some.is at c.next_line.ensures.prefix)
    (rw c.len.ensures at (c.in-Ok-Last.ensures.ok ∙ ap as_said c.in-Ok-Last.field-0-is)) in
    is ∙ fault_at_last _ c.finish.result fault (rw c.len-line.ensures at c.finish.ensures.fault) e
