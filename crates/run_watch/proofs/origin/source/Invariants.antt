use Rattle.std.proofs.Common.{◌≡◌, drop, slice_get}
use Rattle.run_watch.specs.Watches.{sources}
use Rattle.run_watch.proofs.origin.source.Given as goal

-- so many more are left among those from this one on
abbrev pub invariant-loop-k : goal.invariant-loop-k
invariant-loop-k l =
    slice_get (sources l.monitor (drop l.k l.heard) l.m) l.left
    ≡ slice_get (sources l.monitor l.heard l.m) l.number
