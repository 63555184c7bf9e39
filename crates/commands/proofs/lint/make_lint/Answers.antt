use Rattle.std.proofs.Common.{refl}
use Rattle.polis_base.specs.declared.limits.TheConstants.{TEXT_MAX}
use Rattle.polis_words.specs.declared.requests.command.OnNet.TheVariants.{Lint}
use Rattle.input_files.specs.Details.{explains_in}
use Rattle.input_files.proofs.FileFails.{net_explained}
use Rattle.commands.specs.NetProducts.{on_net_meaning}
use Rattle.commands.proofs.IsExplained.{files_explained}
use Rattle.commands.proofs.IsMade.{product_is}
use Rattle.commands.proofs.NetProducts.{declared_made}
use Rattle.commands.proofs.lint.make_lint.Goals as goal

pub returns-in-Ok-print_open-clause-made : goal.returns-in-Ok-print_open-clause-made
returns-in-Ok-print_open-clause-made g c =
    let declared = c.in-Ok.declared in
    declared_made c.args.detail Lint (g.H.Host.files c.args.host.now) c.args.asked.now declared.raw
    declared.net _ (rw c.net.ensures at c.in-Ok.ensures.held)
    (product_is c.showing.result c.in-Ok-print_open.shown _ c.showing.ensures
    c.in-Ok-print_open.ensures)

pub returns-in-Err-clause-made : goal.returns-in-Err-clause-made
returns-in-Err-clause-made g c =
    let asked = c.args.asked.now in
    let o = g.H.Host.files c.args.host.now in
    files_explained (on_net_meaning c.args.detail Lint asked) o c.in-Err.failure refl
    (net_explained asked.net o (explains_in c.args.detail TEXT_MAX) c.in-Err.failure
    (rw c.net.ensures at c.in-Err.ensures.failed))
