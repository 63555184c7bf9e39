use Rattle.commands.proofs.ShuffleMeaning.{shuffle_is}
use Rattle.commands.proofs.shuffle.product_of.Goals as goal

pub returns : goal.returns
returns c =
    let finished = c.args.finished.now in
    record {
      journal = finished.journal;
      complete = finished.complete;
      drawn = c.requires.drawn;
      made = shuffle_is c.args.asked.now c.args.inputs.now.net finished.journal finished.complete
          c.stem.result.now c.in_ok-outputs.outputs c.in_ok-journal.journal c.in_ok-shown.shown
          c.in_ok-saves.saves c.end_at.result c.in_ok-saves.ensures c.stem.ensures
          c.in_ok-outputs.ensures c.in_ok-journal.ensures c.in_ok-shown.ensures c.end_at.ensures;
    }
