use Rattle.std.proofs.Common.{List, ap, ◌∙◌}
use Rattle.journals.specs.declared.entry.Entry.{Entry}
use Rattle.journal_chart.specs.Columns.{shown}
use Rattle.journal_chart.proofs.Windows.{mark_shown, shown_at, shown_fits}
use Rattle.journal_chart.proofs.chart.push_all.Goals as goal

pub begin-requires : goal.begin-requires
begin-requires c =
    shown_fits c.args.net.now c.args.j.now c.shown-entries.result.now c.args.from c.args.to
    c.requires.fits
    (c.shown-entries.ensures
    ∙ ap (λ (l : List Entry). shown l c.args.from c.args.to) c.as_slice.ensures)

pub push_lines-requires-clause-entries : goal.push_lines-requires-clause-entries
push_lines-requires-clause-entries c = λ k x at.
    shown_at c.args.j.now c.shown-entries.result.now c.args.from c.args.to k x
    (c.shown-entries.ensures
    ∙ ap (λ (l : List Entry). shown l c.args.from c.args.to) c.as_slice.ensures)
    at

pub push_lines-requires-clause-marks : goal.push_lines-requires-clause-marks
push_lines-requires-clause-marks c = λ k x at.
    mark_shown c.args.net.now c.args.j.now c.shown-entries.result.now c.in_ok-marks.marks c.args.from
    c.args.to c.end_of.result k x
    (c.shown-entries.ensures
    ∙ ap (λ (l : List Entry). shown l c.args.from c.args.to) c.as_slice.ensures)
    c.end_of.ensures.is c.in_ok-marks.ensures at
