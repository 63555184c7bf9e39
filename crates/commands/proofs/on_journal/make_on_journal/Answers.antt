use Rattle.std.proofs.Common.{refl}
use Rattle.input_files.specs.declared.load.Detail.TheVariants as details
use Rattle.commands.specs.JournalProducts.{on_journal_meaning, product_of}
use Rattle.commands.proofs.IsExplained.{judging_explained}
use Rattle.commands.proofs.IsMade.{product_is}
use Rattle.commands.proofs.JournalMeaning.{judging_made}
use Rattle.commands.proofs.on_journal.make_on_journal.Goals as goal

pub returns-in-Ok-print_of-clause-made : goal.returns-in-Ok-print_of-clause-made
returns-in-Ok-print_of-clause-made g c =
    let judged = c.in-Ok.judged in
    judging_made details.Cause (g.H.Host.files c.args.host.now) c.args.asked.now
    (λ net journal complete. product_of c.args.kind net journal) judged.inputs.net
    judged.inputs.trace judged.read.journal judged.complete _ c.in-Ok.ensures.judged
    (product_is c.showing.result c.in-Ok-print_of.shown _ c.showing.ensures
    c.in-Ok-print_of.ensures) tt refl

pub returns-in-Err-clause-made : goal.returns-in-Err-clause-made
returns-in-Err-clause-made g c =
    judging_explained (on_journal_meaning c.args.kind c.args.asked.now)
    (g.H.Host.files c.args.host.now) c.in-Err.failure refl refl c.in-Err.ensures.failed
