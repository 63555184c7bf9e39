use Rattle.trace_text.specs.declared.fault.TraceFault.TheVariants.{Line as FaultyLine}
use Rattle.commands.proofs.RunsWhole.{whole_fault, whole_reads, whole_runs}
use Rattle.commands.proofs.demo.read_drawn.Goals as goal

pub unreachable-requires : goal.unreachable-requires
unreachable-requires c =
    whole_fault c.args.texts.now.net c.args.texts.now.trace c.in-Err-Cause.field-0-0
    c.requires.whole
    (rw (c.in-Err-Cause.field-0-is, c.as_slice.ensures) at c.in-Err-Cause.ensures.failed)

pub returns-in-Ok-read_trace-clause-whole : goal.returns-in-Ok-read_trace-clause-whole
returns-in-Ok-read_trace-clause-whole c =
    whole_runs c.args.texts.now.net c.args.texts.now.trace c.in-Ok.net c.in-Ok-read_trace.trace
    c.requires.whole (rw c.as_slice.ensures at c.in-Ok.ensures.one)
    (rw c.as_slice-2.ensures at c.in-Ok-read_trace.ensures.ok)

pub unreachable-requires-in-Err-Line : goal.unreachable-requires-in-Err-Line
unreachable-requires-in-Err-Line c =
    let line = c.in-Err-Line.field-0-0 in
    let kind = c.in-Err-Line.field-0-1 in
    whole_reads c.args.texts.now.net c.args.texts.now.trace c.in-Ok.net line kind
    c.requires.whole (rw c.as_slice.ensures at c.in-Ok.ensures.one)
    (rw c.as_slice-2.ensures at
    c.in-Err-Line.ensures.fault (FaultyLine line kind)
    (let is = c.in-Err-Line.field-0-is in cc) (λ e. cc))
