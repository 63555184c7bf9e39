use Rattle.std.proofs.Common.{◌≡◌, map}
use Rattle.polis_base.specs.Lists.{upto}
use Rattle.run_watch.specs.Monitors.{watched}
use Rattle.run_watch.proofs.hearing.events_of.Given as goal

-- those of the events before this one
abbrev pub invariant-loop-e : goal.invariant-loop-e
invariant-loop-e l = l.events ≡ map (watched l.net l.monitor) (upto l.e)
