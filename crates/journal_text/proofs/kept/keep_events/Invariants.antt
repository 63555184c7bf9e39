use Rattle.std.proofs.Common.{◌≡◌, true, take}
use Rattle.std.specs.List.{list_all}
use Rattle.journal_text.specs.Holding.{has_name_token}
use Rattle.journal_text.proofs.kept.keep_events.Given as goal

-- those before this one hold
abbrev pub invariant-loop-event : goal.invariant-loop-event
invariant-loop-event l = list_all has_name_token (take l.event-index l.events) ≡ true
