use Rattle.std.proofs.Common.{◌-◌, length}
use Rattle.net_core.proofs.IsQueue.{IsPassed}
use Rattle.net_core.proofs.config.emissions.place_from.Given as goal

-- the emissions of the sender before this one aren't waited for
abbrev pub invariant-loop-place : goal.invariant-loop-place
invariant-loop-place l = IsPassed l.records l.from l.to l.start l.place

abbrev pub decreases-loop-place : goal.decreases-loop-place
decreases-loop-place l = length l.records - l.place
