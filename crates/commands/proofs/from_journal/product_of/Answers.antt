use Rattle.std.proofs.Common.{refl}
use Rattle.output_files.proofs.Saves.{one_made}
use Rattle.commands.specs.JournalProducts.{ending_of}
use Rattle.commands.proofs.from_journal.product_of.Goals as goal

pub returns : goal.returns
returns c =
    one_made (ending_of c.args.kind) c.args.stem.now _ c.in_ok-text.text _ c.in_ok-shown.shown _
    c.in_ok-product.product (rw c.ending.ensures at c.in_ok-product.ensures) refl
    c.in_ok-text.ensures (rw c.len.ensures at c.in_ok-shown.ensures)
