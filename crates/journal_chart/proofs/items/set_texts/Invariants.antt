use Rattle.std.specs.Iterator.Adapters.{zip_first, zip_second}
use Rattle.std.specs.Slice.Iter.{iter_rest}
use Rattle.journal_text.specs.Texts.{set_items}
use Rattle.journal_text.specs.inner.Texts.{set_size}
use Rattle.journal_chart.proofs.ItemsLeft.{AreLeft}
use Rattle.journal_chart.proofs.items.set_texts.Given as goal

-- with the items that are left they are all
abbrev pub invariant-loop-variable : goal.invariant-loop-variable
invariant-loop-variable l =
    AreLeft (set_size l.net) (set_items l.net)
    (set_items l.net l.fn.variables l.fn.codes) l.items
    (iter_rest (zip_first l.variable-iterator)) (iter_rest (zip_second l.variable-iterator))
