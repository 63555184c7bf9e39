use Rattle.std.proofs.Common.{◌-◌, length}
use Rattle.table_use.proofs.boxes.+passing_from.Given as goal

abbrev pub decreases-passing_from : goal.decreases-passing_from
decreases-passing_from l = length l.machine.now.vars - l.from
