use Rattle.std.proofs.Common.{arith}
use Rattle.graph_drawing.proofs.IsNext.{least_more, least_is_next}
use Rattle.graph_drawing.proofs.graph_text.next_child.Goals as goal

pub loop-code-preserved : goal.loop-code-preserved
loop-code-preserved c =
    least_more c.args.kids.now c.args.from c.args.count c.loop-code.least c.loop-code.code
    c.get.result.now c.nearer-least.result c.loop-code.invariant c.get.ensures
    c.nearer-least.ensures

pub returns : goal.returns
returns c =
    let len = c.len-code-end.ensures in
    let done = c.loop-code-test.false in
    least_is_next c.args.kids.now c.args.from c.args.count c.loop-code.least c.loop-code.code
    c.loop-code.invariant (omega arith)
