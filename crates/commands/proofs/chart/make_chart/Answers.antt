use Rattle.std.proofs.Common.{◌∙◌, refl}
use Rattle.journal_chart.specs.Chart.{chart_text}
use Rattle.input_files.specs.declared.load.Detail.TheVariants as details
use Rattle.commands.specs.JournalProducts.{chart_meaning, chart_product}
use Rattle.commands.proofs.IsExplained.{judging_explained}
use Rattle.commands.proofs.IsMade.{product_is}
use Rattle.commands.proofs.JournalMeaning.{judging_made}
use Rattle.commands.proofs.chart.make_chart.Goals as goal

pub returns-in-Ok-print_chart-clause-made : goal.returns-in-Ok-print_chart-clause-made
returns-in-Ok-print_chart-clause-made g c =
    let judged = c.in-Ok.judged in
    judging_made details.Cause (g.H.Host.files c.args.host.now) c.args.asked.now.replay
    (λ net journal complete. chart_product c.args.asked.now net journal) judged.inputs.net
    judged.inputs.trace judged.read.journal judged.complete _
    (rw c.replay.ensures at c.in-Ok.ensures.judged)
    (product_is c.showing.result c.in-Ok-print_chart.shown _ c.showing.ensures
    (c.in-Ok-print_chart.ensures
    ∙ (λ i. chart_text judged.inputs.net judged.read.journal (c.from.ensures i)
    (c.to.ensures i)))) tt refl

pub returns-in-Err-clause-made : goal.returns-in-Err-clause-made
returns-in-Err-clause-made g c =
    judging_explained (chart_meaning c.args.asked.now)
    (g.H.Host.files c.args.host.now) c.in-Err.failure refl refl
    (rw c.replay.ensures at c.in-Err.ensures.failed)
