use Rattle.std.proofs.Common.{◌-◌, length}
use Rattle.table_use.proofs.boxes.+idle_from.Given as goal

abbrev pub decreases-idle_from : goal.decreases-idle_from
decreases-idle_from l = length l.machine.now.inputs - l.from
