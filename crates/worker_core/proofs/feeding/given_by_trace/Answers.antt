use Rattle.std.proofs.Common.{ap, ◌∙◌, flat_map, false, arith}
use Rattle.std.proofs.lemmas.List.{take_all}
use Rattle.journals.specs.Schedules.{item_deliveries}
use Rattle.worker_core.proofs.AtStart.{items_give}
use Rattle.worker_core.proofs.feeding.given_by_trace.Goals as goal

pub returns : goal.returns
returns c =
    c.new.ensures ∙ c.loop-item.invariant
    ∙ ap (flat_map (item_deliveries c.args.net.now))
    (take_all c.loop-item.item-index c.as_slice-item-items.result.now
    (omega (arith, c.loop-item-test.false)) ∙ c.as_slice-item-items.ensures)
    ∙ items_give c.args.net.now false c.args.trace.now
