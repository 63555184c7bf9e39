-- The actions that were made are those of the declarations that were gone over.
use Rattle.std.proofs.Common.{◌≡◌, map, take}
use Rattle.net_rules.specs.Networks.{act_of}
use Rattle.net_rules.proofs.row_list.acts_of.Given as goal

abbrev pub invariant-loop-act : goal.invariant-loop-act
invariant-loop-act l =
    l.made ≡ map (act_of l.names.scope.now.raw.now l.names.machine.now) (take l.act-index l.acts)
