use Rattle.std.proofs.Common.{codes}
use Rattle.output_files.proofs.Saves.{one_made}
use Rattle.commands.proofs.compile.product_of.Goals as goal

pub returns : goal.returns
returns c =
    let texts = c.in_ok-listing.ensures in (
      texts.parts,
      texts.right,
      one_made (codes ".lst") c.stem.result.now _ c.in_ok-listing.field-0.listing _
          c.in_ok-listing.field-0.lengths _ c.in_ok-product.product c.in_ok-product.ensures
          c.stem.ensures texts.listing texts.lengths,
    )
