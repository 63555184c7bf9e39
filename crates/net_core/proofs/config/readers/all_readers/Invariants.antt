use Rattle.std.proofs.Common.{◌≡◌, ◌<◌, ℕ, length, get_or}
use Rattle.journals.specs.Schedules.{receivers_of}
use Rattle.polis_base.specs.Sets.{members}
use Rattle.net_core.proofs.config.readers.all_readers.Given as goal

-- those of the events before this one
abbrev pub invariant-loop-event : goal.invariant-loop-event
invariant-loop-event l = record {
  long : length l.readers.items ≡ l.event;
  are : (e : ℕ) → e < l.event → members (get_or l.readers.items e 0) ≡ receivers_of l.net e;
}
