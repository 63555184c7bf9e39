use Rattle.std.proofs.Common.{◌≡◌, map, take}
use Rattle.transition_table.specs.Transitions.{blank}
use Rattle.net_core.proofs.blanks.all_blank.Given as goal

-- those before this one are made
abbrev pub invariant-loop-m : goal.invariant-loop-m
invariant-loop-m l = l.outcomes.items ≡ map blank (take l.m l.net.machines)
