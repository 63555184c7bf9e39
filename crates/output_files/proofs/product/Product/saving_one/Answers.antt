use Rattle.std.proofs.Common.{◌++◌}
use Rattle.output_files.specs.declared.product.End.TheVariants as ends
use Rattle.output_files.proofs.Saves.{one_save}
use Rattle.output_files.proofs.product.Product.saving_one.Goals as goal

pub returns : goal.returns
returns c =
    let saves = one_save c.new-saves.result c.push.new.self c.in_ok-saving.saving
    (record { name = c.args.stem.now ++ c.args.ending.now; text = c.args.text })
    c.new-saves.ensures c.in_ok-push.ensures.ok c.in_ok-saving.ensures in
    λ i. record { saves = saves i; shown = c.args.shown; end = ends.Done }
