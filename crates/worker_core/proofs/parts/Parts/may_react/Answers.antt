use Rattle.std.proofs.Common.{◌∙◌}
use Rattle.worker_core.specs.Parts.{state_of}
use Rattle.worker_core.proofs.AreParts.{may_react_is}
use Rattle.worker_core.proofs.parts.Parts.may_react.Goals as goal

pub returns : goal.returns
returns c =
    c.all_three.ensures
    ∙ may_react_is c.args.net.now c.args.trace.now
    (state_of c.args.self.now) c.args.m c.clock-room.result c.is_idle-idle.result
    c.is_delivered-woken.result c.get.result.now c.get-2.result.now
    c.moving_laws.ensures.moves_waking c.requires.parts.core c.get.ensures c.get-2.ensures
    c.is_idle-idle.ensures c.is_delivered-woken.ensures c.clock-room.ensures
