use Rattle.std.proofs.Common.{refl}
use Rattle.commands.specs.Shuffle.{shuffle_meaning}
use Rattle.input_files.specs.Inputs.{InputsFail}
use Rattle.commands.proofs.IsMade.{files_failure}
use Rattle.commands.proofs.ShuffleMeaning.{shuffle_made}
use Rattle.commands.proofs.shuffle.make_shuffle.Goals as goal

pub returns-in-Ok-product_drawn-clause-made : goal.returns-in-Ok-product_drawn-clause-made
returns-in-Ok-product_drawn-clause-made g c =
    shuffle_made (g.H.Host.files c.args.host.now) c.args.asked.now c.in-Ok.inputs.net
    c.in-Ok.inputs.trace c.in-Ok-product_drawn.product
    (rw (c.net.ensures, c.trace.ensures) at c.in-Ok.ensures.held)
    c.in-Ok-product_drawn.ensures

pub returns-in-Err-clause-made : goal.returns-in-Err-clause-made
returns-in-Err-clause-made g c =
    let asked = c.args.asked.now in
    files_failure (shuffle_meaning asked) (g.H.Host.files c.args.host.now)
    (λ files. InputsFail files asked.net asked.trace) c.in-Err.failure refl
    (λ told name cause. refl) (λ files name cause h. h)
    (rw (c.net.ensures, c.trace.ensures) at c.in-Err.ensures.failed)
