use Rattle.journal_text.proofs.MachineCodes.{inputs_fit}
use Rattle.journal_chart.proofs.reaction.sights_of.Goals as goal

pub event_texts-requires : goal.event_texts-requires
event_texts-requires c =
    let r = c.args.r.now in
    rw (c.first_ones-codes.ensures, c.as_slice-inputs.ensures, c.as_slice.ensures)
    (inputs_fit r.net.now r.machine.now r.snapshot.now r.sized_vars r.reads)
