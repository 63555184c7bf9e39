use Rattle.std.proofs.Common.{◌∙◌, arith}
use Rattle.journals.specs.Journals.{is_trace_item}
use Rattle.event_buffer.proofs.LeftAt.{none_from, past}
use Rattle.event_buffer.proofs.feed.next_item.Goals as goal
use Rattle.polis_base.proofs.ListTests.{all_get}

pub count_of-requires : goal.count_of-requires
count_of-requires c =
    all_get (is_trace_item c.args.net.now) c.args.trace.now c.loop-i.i c.get.result.now
    c.requires.trace c.get.ensures

pub loop-i-preserved : goal.loop-i-preserved
loop-i-preserved c =
    let none = c.if-count_of-gt0.false in
    let count = c.count_of.ensures in
    none_from c.args.net.now c.args.trace.now c.loop-i.i c.get.result.now c.get.ensures
    (omega arith)
    ∙ c.loop-i.invariant

pub returns-clause-next : goal.returns-clause-next
returns-clause-next c =
    let end = c.len.ensures in
    past c.args.net.now 0 c.args.trace.now c.len.result (omega arith)
