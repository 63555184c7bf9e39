use Rattle.std.proofs.Common.{refl}
use Rattle.commands.specs.NetProducts.{draw_product, parts_meaning}
use Rattle.input_files.specs.Inputs.{OnlyNetFails}
use Rattle.commands.proofs.IsMade.{files_failure}
use Rattle.commands.proofs.NetProducts.{parts_made}
use Rattle.input_files.proofs.FileFails.{net_alone}
use Rattle.commands.proofs.draw.make_draw.Goals as goal

pub returns-in-Ok-product_of-clause-made : goal.returns-in-Ok-product_of-clause-made
returns-in-Ok-product_of-clause-made g c =
    parts_made (g.H.Host.files c.args.host.now) (draw_product c.args.asked.now.stem)
    c.args.asked.now c.in-Ok.net
    c.in-Ok-product_of.product
    (rw c.net.ensures at c.in-Ok.ensures.held) c.in-Ok-product_of.ensures
    (λ parts. ((tt, tt), refl))

pub returns-in-Err-clause-made : goal.returns-in-Err-clause-made
returns-in-Err-clause-made g c =
    let asked = c.args.asked.now in
    files_failure (parts_meaning (draw_product asked.stem) asked) (g.H.Host.files c.args.host.now) (OnlyNetFails asked.net)
    c.in-Err.failure refl (λ told name cause. refl) (λ files name cause h. h)
    (net_alone asked.net (g.H.Host.files c.args.host.now) c.in-Err.failure
    (rw c.net.ensures at c.in-Err.ensures.failed))
