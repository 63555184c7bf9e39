use Rattle.std.proofs.Common.{◌≡◌, take, flat_map}
use Rattle.journals.specs.Schedules.{item_deliveries}
use Rattle.worker_core.proofs.feeding.given_by_trace.Given as goal

abbrev pub invariant-loop-item : goal.invariant-loop-item
invariant-loop-item l = l.owed ≡ flat_map (item_deliveries l.net) (take l.item-index l.item-items)
