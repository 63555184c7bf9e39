-- The rows that were made are those of the declarations that were gone over.
use Rattle.std.proofs.Common.{take}
use Rattle.std.specs.List.{AllZip}
use Rattle.net_rules.specs.Networks.{IsRowOf}
use Rattle.net_rules.proofs.row_list.rows_of.Given as goal

abbrev pub invariant-loop-row : goal.invariant-loop-row
invariant-loop-row l =
    AllZip (IsRowOf l.names.scope.now.raw.now l.names.machine.now) (take l.row-index l.rows) l.made
