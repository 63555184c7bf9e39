use Rattle.std.proofs.Common.{map, drop, option_copied}
use Rattle.journal_text.specs.Items.{as_event, some_codes}
use Rattle.journal_text.specs.Cursors.{items_in}
use Rattle.polis_base.specs.Pieces.{left}
use Rattle.journal_text.proofs.ReadItems.{Taken}
use Rattle.journal_text.proofs.codes.push_event_codes.Given as goal

-- the items of the events before this one are read
abbrev pub invariant-loop-e : goal.invariant-loop-e
invariant-loop-e l =
    Taken (some_codes l.net) (map (as_event l.net) l.events) (items_in l.list) l.fn.into l.into
    (map (as_event l.net) (drop l.e-index l.events)) (left 32 (option_copied l.items))
