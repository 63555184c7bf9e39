use Rattle.std.proofs.Common.{length, refl}
use Rattle.std.proofs.lemmas.Option.{slice_get_read}
use Rattle.journals.proofs.EntriesAt.{fits_at}
use Rattle.journal_chart.proofs.Columns.{item_more}
use Rattle.journal_chart.proofs.layout.longest_item.Goals as goal

pub item_length-requires : goal.item_length-requires
item_length-requires c =
    fits_at c.args.net.now c.args.entries.now c.loop-entry.entry-index c.entry-item.result c.requires
    (slice_get_read c.args.entries.now (length c.args.entries.now) c.loop-entry.entry-index
    c.entry-item.result refl c.loop-entry-test.true c.entry-item.is)

pub loop-entry-preserved : goal.loop-entry-preserved
loop-entry-preserved c = (
  item_more c.args.net.now c.args.entries.now c.loop-entry.entry-index c.loop-entry.longest
      c.in_ok-count.count c.greater-longest.result c.entry-item.result
      (slice_get_read c.args.entries.now (length c.args.entries.now) c.loop-entry.entry-index
      c.entry-item.result refl c.loop-entry-test.true c.entry-item.is)
      c.loop-entry.invariant.0 c.in_ok-count.ensures.is c.greater-longest.ensures.is,
  c.greater-longest.ensures.small,
)
