use Rattle.std.proofs.Common.{◌≡◌, drop}
use Rattle.event_buffer.specs.Feeds.{all_deliveries}
use Rattle.event_buffer.proofs.feed.next_item.Given as goal

-- the items before this one give none
abbrev pub invariant-loop-i : goal.invariant-loop-i
invariant-loop-i l =
    all_deliveries l.net (drop l.i l.trace) ≡ all_deliveries l.net (drop l.from l.trace)
