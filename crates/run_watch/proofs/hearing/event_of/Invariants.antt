use Rattle.std.proofs.Common.{◌≡◌, ℕ, ◌<◌, false}
use Rattle.run_watch.specs.Monitors.{hears_at}
use Rattle.run_watch.proofs.hearing.event_of.Given as goal

-- none before this one
abbrev pub invariant-loop-w : goal.invariant-loop-w
invariant-loop-w l = (k : ℕ) → k < l.w → hears_at l.monitor l.name k ≡ false
