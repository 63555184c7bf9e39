use Rattle.std.proofs.Common.{◌≡◌, filter_map, take}
use Rattle.run_watch.specs.Monitors.{heard_by}
use Rattle.run_watch.specs.inner.Hearings.{looked_up}
use Rattle.run_watch.proofs.hearing.heard_of.Given as goal

-- what is heard of those before this one
abbrev pub invariant-loop-k : goal.invariant-loop-k
invariant-loop-k l = l.heard ≡ filter_map (heard_by (looked_up l.events)) (take l.k l.outputs)
