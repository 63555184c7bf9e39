use Rattle.std.proofs.Common.{ℕ, false, List, length, map, take, replicate, refl, ap, sym, ◌∙◌}
use Rattle.std.proofs.lemmas.Option.{slice_get_read}
use Rattle.polis_base.specs.Lists.{upto}
use Rattle.journals.specs.declared.entry.Entry.{Entry}
use Rattle.journals.proofs.EntriesAt.{fits_at, prefix_more}
use Rattle.journal_chart.specs.Columns.{has_column}
use Rattle.journal_chart.proofs.Columns.{length_flags, none_named}
use Rattle.journal_chart.proofs.layout.flags_of.Goals as goal

pub loop-entry-init : goal.loop-entry-init
loop-entry-init c =
    c.in_ok-flags.ensures ∙ ap (λ (n : ℕ). replicate n false) c.len.ensures
    ∙ none_named (length c.args.net.now.machines)

pub note_entry-requires-clause-fits : goal.note_entry-requires-clause-fits
note_entry-requires-clause-fits c =
    fits_at c.args.net.now c.args.entries.now c.loop-entry.entry-index c.entry-item.result c.requires
    (slice_get_read c.args.entries.now (length c.args.entries.now) c.loop-entry.entry-index
    c.entry-item.result refl c.loop-entry-test.true c.entry-item.is)

pub note_entry-requires-clause-many : goal.note_entry-requires-clause-many
note_entry-requires-clause-many c =
    length_flags (has_column (take c.loop-entry.entry-index c.args.entries.now))
    (length c.args.net.now.machines) c.loop-entry.flags c.loop-entry.invariant

pub loop-entry-preserved : goal.loop-entry-preserved
loop-entry-preserved c =
    let entries = c.args.entries.now in
    let k = c.loop-entry.entry-index in
    c.note_entry.ensures (take k entries) c.loop-entry.invariant
    ∙ ap (λ (l : List Entry). map (has_column l) (upto (length c.args.net.now.machines)))
    (sym (prefix_more entries k c.entry-item.result
    (slice_get_read entries (length entries) k c.entry-item.result refl c.loop-entry-test.true
    c.entry-item.is)))
