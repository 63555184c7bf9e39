use Rattle.std.proofs.Common.{codes, refl}
use Rattle.output_files.proofs.Saves.{one_made}
use Rattle.commands.proofs.image.product_of.Goals as goal

pub returns : goal.returns
returns c =
    one_made (codes ".img") c.stem.result.now _ c.args.bytes _ c.in_ok-shown.shown _
    c.in_ok-product.product c.in_ok-product.ensures c.stem.ensures refl
    (rw c.as_slice.ensures at c.in_ok-shown.ensures)
