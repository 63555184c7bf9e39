use Rattle.std.proofs.Common.{refl}
use Rattle.commands.specs.JournalProducts.{replay_meaning, replay_product}
use Rattle.commands.proofs.IsExplained.{judging_explained}
use Rattle.commands.proofs.IsMade.{product_is}
use Rattle.commands.proofs.JournalMeaning.{judging_made}
use Rattle.commands.proofs.replay.make_replay.Goals as goal

pub returns-in-Ok-print_legal-clause-made : goal.returns-in-Ok-print_legal-clause-made
returns-in-Ok-print_legal-clause-made g c =
    let judged = c.in-Ok.judged in
    judging_made c.args.detail (g.H.Host.files c.args.host.now) c.args.asked.now replay_product
    judged.inputs.net judged.inputs.trace judged.read.journal judged.complete _
    c.in-Ok.ensures.judged
    (product_is c.showing.result c.in-Ok-print_legal.shown _ c.showing.ensures
    (rw c.len.ensures at c.in-Ok-print_legal.ensures)) tt refl

pub returns-in-Err-clause-made : goal.returns-in-Err-clause-made
returns-in-Err-clause-made g c =
    judging_explained (replay_meaning c.args.detail c.args.asked.now)
    (g.H.Host.files c.args.host.now) c.in-Err.failure refl refl c.in-Err.ensures.failed
