use Rattle.std.specs.Iterator.Adapters.{zip_first, zip_second}
use Rattle.std.specs.Slice.Iter.{iter_rest}
use Rattle.journal_text.specs.Texts.{event_items}
use Rattle.journal_text.specs.inner.Texts.{event_size}
use Rattle.journal_chart.proofs.ItemsLeft.{AreLeft}
use Rattle.journal_chart.proofs.items.event_texts.Given as goal

-- with the items that are left they are all
abbrev pub invariant-loop-event : goal.invariant-loop-event
invariant-loop-event l =
    AreLeft (event_size l.net) (event_items l.net)
    (event_items l.net l.fn.events l.fn.codes) l.items
    (iter_rest (zip_first l.event-iterator)) (iter_rest (zip_second l.event-iterator))
