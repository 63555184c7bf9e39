use Rattle.std.proofs.Common.{arith, length-take}
use Rattle.fault_text.proofs.BlockText.{start_is}
use Rattle.fault_text.proofs.block.push_start.Goals as goal

pub slice_bounds-push_shown-end : goal.slice_bounds-push_shown-end
slice_bounds-push_shown-end c = omega (arith, length-take c.min.result c.args.content.now)

pub returns : goal.returns
returns c =
    start_is c.args.blanks c.args.content.now c.args.into.now c.push_shown.new.into
    c.push.new.self c.min.result c.min.ensures c.in_ok-push_shown.ensures
    c.in_ok-push.ensures.ok
