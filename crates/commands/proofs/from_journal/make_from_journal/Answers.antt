use Rattle.std.proofs.Common.{refl}
use Rattle.input_files.specs.declared.load.Detail.TheVariants as details
use Rattle.commands.specs.JournalProducts.{from_journal_meaning, saving_of}
use Rattle.commands.proofs.IsExplained.{judging_explained}
use Rattle.commands.proofs.JournalMeaning.{judging_made}
use Rattle.commands.proofs.from_journal.make_from_journal.Goals as goal

pub returns-in-Ok-product_of-clause-made : goal.returns-in-Ok-product_of-clause-made
returns-in-Ok-product_of-clause-made g c =
    let judged = c.in-Ok.judged in
    let asked = c.args.asked.now in
    judging_made details.Cause (g.H.Host.files c.args.host.now) asked.replay
    (saving_of c.args.kind asked.stem) judged.inputs.net judged.inputs.trace judged.read.journal
    judged.complete c.in-Ok-product_of.product (rw c.replay.ensures at c.in-Ok.ensures.judged)
    (rw c.stem.ensures at c.in-Ok-product_of.ensures) (tt, tt) refl

pub returns-in-Err-clause-made : goal.returns-in-Err-clause-made
returns-in-Err-clause-made g c =
    judging_explained (from_journal_meaning c.args.kind c.args.asked.now)
    (g.H.Host.files c.args.host.now) c.in-Err.failure refl refl
    (rw c.replay.ensures at c.in-Err.ensures.failed)
