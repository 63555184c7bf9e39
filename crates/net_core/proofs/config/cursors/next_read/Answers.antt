use Rattle.std.proofs.Common.{sym, ◌∙◌, arith}
use Rattle.net_core.specs.Marks.{is_marked}
use Rattle.net_core.proofs.Cursors.{first_here, first_further}
use Rattle.net_core.proofs.config.cursors.next_read.Goals as goal

pub returns-then-reads_item : goal.returns-then-reads_item
returns-then-reads_item c =
    let here = first_here (is_marked c.args.readers.now c.args.m) c.args.trace.now c.loop-place.place
    c.get.result.now c.get.ensures (sym c.reads_item.ensures ∙ c.if-reads_item.true) in
    omega (arith, c.loop-place.invariant)

pub loop-place-preserved : goal.loop-place-preserved
loop-place-preserved c =
    let further = first_further (is_marked c.args.readers.now c.args.m) c.args.trace.now
    c.loop-place.place c.get.result.now c.get.ensures
    (sym c.reads_item.ensures ∙ c.if-reads_item.false) in
    omega (arith, c.loop-place.invariant)
