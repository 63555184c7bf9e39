use Rattle.std.proofs.Common.{refl}
use Rattle.commands.specs.Explain.{explain_trace_meaning}
use Rattle.commands.proofs.ExplainMeaning.{items_made}
use Rattle.commands.proofs.IsExplained.{files_explained}
use Rattle.commands.proofs.IsMade.{product_is}
use Rattle.commands.proofs.explain.make_explain_trace.Goals as goal

pub returns-in-Ok-print_items-clause-made : goal.returns-in-Ok-print_items-clause-made
returns-in-Ok-print_items-clause-made g c =
    items_made (g.H.Host.files c.args.host.now) c.args.asked.now c.in-Ok.inputs.net
    c.in-Ok.inputs.trace _ (rw (c.net.ensures, c.trace.ensures) at c.in-Ok.ensures.held)
    (product_is c.showing.result c.in-Ok-print_items.shown _ c.showing.ensures
    (rw c.len.ensures at c.in-Ok-print_items.ensures))

pub returns-in-Err-clause-made : goal.returns-in-Err-clause-made
returns-in-Err-clause-made g c =
    files_explained (explain_trace_meaning c.args.asked.now) (g.H.Host.files c.args.host.now)
    c.in-Err.failure refl (rw (c.net.ensures, c.trace.ensures) at c.in-Err.ensures.failed)
