use Rattle.journal_text.proofs.MachineCodes.{settings_fit}
use Rattle.journal_chart.proofs.reaction.settings_of.Goals as goal

pub set_texts-requires : goal.set_texts-requires
set_texts-requires c =
    let r = c.args.r.now in
    rw (c.as_slice-states.ensures, c.as_slice.ensures)
    (settings_fit r.net.now r.machine.now r.outcome.now r.sized_vars r.sized_outputs r.gives)
