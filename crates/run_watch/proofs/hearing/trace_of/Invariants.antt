use Rattle.std.proofs.Common.{◌≡◌, take}
use Rattle.run_watch.specs.Monitors.{settled}
use Rattle.run_watch.proofs.hearing.trace_of.Given as goal

-- the items of those before this one
abbrev pub invariant-loop-k : goal.invariant-loop-k
invariant-loop-k l = l.trace ≡ settled (take l.k l.heard)
