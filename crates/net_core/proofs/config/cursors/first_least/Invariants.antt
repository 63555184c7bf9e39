use Rattle.std.proofs.Common.{nat_lt}
use Rattle.std.specs.List.{IsFirstBest}
use Rattle.net_core.proofs.config.cursors.first_least.Given as goal

-- the first of the least before this one
abbrev pub invariant-loop-m : goal.invariant-loop-m
invariant-loop-m l = IsFirstBest nat_lt l.cursors l.m l.best
