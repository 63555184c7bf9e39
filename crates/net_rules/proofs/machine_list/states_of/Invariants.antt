-- The state variables that were made are those of the declarations that were gone over.
use Rattle.std.proofs.Common.{◌≡◌, map, take}
use Rattle.net_rules.specs.Networks.{state_of}
use Rattle.net_rules.proofs.machine_list.states_of.Given as goal

abbrev pub invariant-loop-state : goal.invariant-loop-state
invariant-loop-state l = l.made ≡ map (state_of l.scope.raw.now) (take l.state-index l.states)
