use Rattle.std.proofs.Common.{◌-◌}
use Rattle.outcome_table.proofs.column.+column_from.Given as goal

abbrev pub decreases-column_from : goal.decreases-column_from
decreases-column_from l = l.v - l.from
