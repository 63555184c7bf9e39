use Rattle.std.proofs.Common.{◌<◌, ℕ, true, length, slice_set, ap, sym, subst, ◌∙◌}
use Rattle.journals.proofs.CursorsAfter.{machine_within}
use Rattle.journal_chart.proofs.Columns.{entry_noted, sender_within}
use Rattle.journal_chart.proofs.layout.note_entry.Goals as goal

pub note_sender-requires : goal.note_sender-requires
note_sender-requires c = λ m is.
    subst (λ (n : ℕ). m < n) (sym c.requires.many)
    (sender_within c.args.net.now c.args.entry.now m c.requires.fits
    (sym c.sender_of.ensures ∙ is))

pub set-requires : goal.set-requires
set-requires c =
    subst (λ (n : ℕ). c.machine.result < n)
    (sym (c.note_sender.ensures.many ∙ c.requires.many))
    (subst (λ (n : ℕ). n < length c.args.net.now.machines) (sym c.machine.ensures)
    (machine_within c.args.net.now c.args.entry.now c.requires.fits))

pub returns : goal.returns
returns c = λ before was.
    let x = c.args.entry.now in
    entry_noted before x (length c.args.net.now.machines) c.args.flags.now c.note_sender.new.flags
    c.set.new.self (machine_within c.args.net.now x c.requires.fits)
    (λ m is. sender_within c.args.net.now x m c.requires.fits is)
    (λ is. c.note_sender.ensures.env (c.sender_of.ensures ∙ is))
    (λ m is. c.note_sender.ensures.machine m (c.sender_of.ensures ∙ is))
    (c.set.ensures
    ∙ ap (λ (m : ℕ). slice_set c.note_sender.new.flags m true) c.machine.ensures)
    was
