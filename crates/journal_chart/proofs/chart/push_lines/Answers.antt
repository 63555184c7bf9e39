use Rattle.std.proofs.Common.{◌+◌, length, refl, arith}
use Rattle.std.proofs.lemmas.Option.{slice_get_read, slice_get_within}
use Rattle.polis_base.proofs.Places.{some_at}
use Rattle.journals.proofs.EntriesAt.{fits_at}
use Rattle.journal_chart.specs.inner.Marks.{loss_mark_at}
use Rattle.journal_chart.proofs.Windows.{lines_more}
use Rattle.journal_chart.proofs.chart.push_lines.Goals as goal

pub overflow_add-p : goal.overflow_add-p
overflow_add-p c =
    let k = c.loop-k.k in
    let at = some_at c.args.entries.now k c.loop-k-test.true in
    let within = slice_get_within c.args.j.now (c.args.from + k) at.0
    (c.requires.entries k at.0 at.1) in
    let len = c.len-count.ensures in
    let small = c.len-count.type_inv in
    omega arith

pub get-mark-requires : goal.get-mark-requires
get-mark-requires c =
    let k = c.loop-k.k in
    let at = some_at c.args.entries.now k c.loop-k-test.true in
    slice_get_within c.args.marks.now (c.args.from + k)
    (loss_mark_at c.args.net.now c.args.j.now (c.args.from + k)) (c.requires.marks k at.0 at.1)

pub push_entry-requires-clause-fits : goal.push_entry-requires-clause-fits
push_entry-requires-clause-fits c =
    let entries = c.args.entries.now in
    let k = c.loop-k.k in
    let x = c.index-entries-k.result in
    let at = slice_get_read entries (length entries) k x refl c.loop-k-test.true c.index-entries-k.is
    in
    fits_at c.args.net.now c.args.j.now (c.args.from + k) x c.requires.journal
    (c.requires.entries k x at)

pub loop-k-preserved : goal.loop-k-preserved
loop-k-preserved c =
    let entries = c.args.entries.now in
    let k = c.loop-k.k in
    let x = c.index-entries-k.result in
    let at = slice_get_read entries (length entries) k x refl c.loop-k-test.true c.index-entries-k.is
    in
    lines_more c.args.net.now c.args.j.now entries c.args.from k c.get-mark.result.now x c.loop-k.into
    c.push_entry.new.into _ c.args.marks.now at (c.requires.entries k x at) c.get-mark.ensures
    (c.requires.marks k x at) c.in_ok-push_entry.ensures c.loop-k.invariant
