use Rattle.std.proofs.Common.{[], refl, subst, sym}
use Rattle.polis_words.specs.declared.cause.Failure.{Failure}
use Rattle.commands.specs.Image.{image_meaning}
use Rattle.commands.specs.Made.{IsMadeFailure}
use Rattle.commands.proofs.ImageMeaning.{image_made, net_fails, too_long}
use Rattle.commands.proofs.image.make_image.Goals as goal

pub returns-in-Ok-product_of_net-clause-made : goal.returns-in-Ok-product_of_net-clause-made
returns-in-Ok-product_of_net-clause-made g c =
    image_made (g.H.Host.files c.args.host.now) c.args.asked.now c.in-Ok.net
    c.in-Ok-product_of_net.product (rw c.net-name.ensures at c.in-Ok.ensures.held)
    c.in-Ok-product_of_net.ensures.made

pub returns-in-Err-clause-made : goal.returns-in-Err-clause-made
returns-in-Err-clause-made g c =
    net_fails (g.H.Host.files c.args.host.now) c.args.asked.now c.in-Err.failure
    (rw c.net-name.ensures at c.in-Err.ensures.failed)

pub returns-in-Err-Cause-clause-made : goal.returns-in-Err-Cause-clause-made
returns-in-Err-Cause-clause-made g c =
    let o = g.H.Host.files c.args.host.now in
    let asked = c.args.asked.now in
    subst (λ (f : Failure). IsMadeFailure (image_meaning asked) o f) (sym c.of.ensures)
    (too_long o asked c.in-Ok.net c.net-name.result.now c.in-Err-Cause.cause [] c.net-name.ensures
    (rw c.net-name.ensures at c.in-Ok.ensures.held)
    (rw c.in-Err-Cause.field-0-is at c.in-Err-Cause.ensures.failed) refl)
