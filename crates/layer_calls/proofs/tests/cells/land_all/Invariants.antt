use Rattle.std.proofs.Common.{◌≡◌}
use Rattle.layer_calls.proofs.tests.cells.land_all.Given as goal

-- the network and the machine stay
abbrev pub invariant-loop-event : goal.invariant-loop-event
invariant-loop-event l = (l.cell.net ≡ l.fn.cell.net) × (l.cell.machine ≡ l.fn.cell.machine)
