use Rattle.std.proofs.Common.{refl}
use Rattle.polis_base.specs.declared.limits.TheConstants.{TEXT_MAX}
use Rattle.input_files.specs.Details.{explains_in}
use Rattle.input_files.proofs.FileFails.{net_explained}
use Rattle.polis_words.specs.declared.requests.command.OnNet.TheVariants.{Check}
use Rattle.commands.specs.NetProducts.{on_net_meaning}
use Rattle.commands.proofs.NetProducts.{check_made}
use Rattle.commands.proofs.IsExplained.{files_explained}
use Rattle.commands.proofs.IsMade.{product_is}
use Rattle.commands.proofs.check.make_check.Goals as goal

pub returns-in-Ok-print_accepted-clause-made : goal.returns-in-Ok-print_accepted-clause-made
returns-in-Ok-print_accepted-clause-made g c =
    check_made c.args.detail (g.H.Host.files c.args.host.now) c.args.check.now c.in-Ok.net _
    (rw c.net.ensures at c.in-Ok.ensures.held)
    (product_is c.showing.result c.in-Ok-print_accepted.shown _ c.showing.ensures
    c.in-Ok-print_accepted.ensures)

pub returns-in-Err-clause-made : goal.returns-in-Err-clause-made
returns-in-Err-clause-made g c =
    let check = c.args.check.now in
    let o = g.H.Host.files c.args.host.now in
    files_explained (on_net_meaning c.args.detail Check check) o c.in-Err.failure refl
    (net_explained check.net o (explains_in c.args.detail TEXT_MAX) c.in-Err.failure
    (rw c.net.ensures at c.in-Err.ensures.failed))
