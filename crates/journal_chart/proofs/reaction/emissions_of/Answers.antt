use Rattle.journal_text.proofs.MachineCodes.{outputs_fit}
use Rattle.journal_chart.proofs.reaction.emissions_of.Goals as goal

pub event_texts-requires : goal.event_texts-requires
event_texts-requires c =
    let r = c.args.r.now in
    rw (c.as_slice-outputs.ensures, c.as_slice.ensures)
    (outputs_fit r.net.now r.machine.now r.outcome.now r.sized_vars r.sized_outputs r.gives)
