-- The conditions that were made are those of the declarations that were gone over.
use Rattle.std.proofs.Common.{◌≡◌, map, take}
use Rattle.net_rules.specs.Networks.{cond_of}
use Rattle.net_rules.proofs.row_list.conds_of.Given as goal

abbrev pub invariant-loop-cond : goal.invariant-loop-cond
invariant-loop-cond l =
    l.made ≡ map (cond_of l.names.scope.now.raw.now l.names.machine.now) (take l.cond-index l.conds)
