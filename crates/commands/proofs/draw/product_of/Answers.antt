use Rattle.std.proofs.Common.{codes}
use Rattle.output_files.proofs.Saves.{one_made}
use Rattle.commands.proofs.draw.product_of.Goals as goal

pub returns : goal.returns
returns c =
    let made = c.in_ok-graphs.ensures in (
      made.parts,
      made.right,
      one_made (codes ".dot") c.stem.result.now _ c.push_drawing.new.into _
          c.in_ok-graphs.field-0.lengths _ c.in_ok-product.product c.in_ok-product.ensures
          c.stem.ensures
          (rw (c.new-text.ensures, made.graphs_are) at c.in_ok-push_drawing.ensures.ok)
          made.lengths_are,
    )
