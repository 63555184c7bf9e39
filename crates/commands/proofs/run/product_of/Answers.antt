use Rattle.commands.specs.inner.Run.{executed}
use Rattle.commands.proofs.RunMeaning.{run_is}
use Rattle.commands.proofs.run.product_of.Goals as goal

pub returns : goal.returns
returns c =
    let run = c.args.asked.now in
    let net = c.args.inputs.now.net in
    let ran = c.args.ran.now in
    let others = c.requires.others in
    record {
      ran = ran;
      is_ran = c.requires.ran;
      made = run_is run net ran (executed c.args.tasks.now) c.stem.result.now
          c.args.others.outputs c.args.journal c.args.others.shown c.args.others.listing
          c.in_ok-saves.saves c.end_at.result c.in_ok-saves.ensures c.stem.ensures others.outputs
          c.requires.journal others.listing others.shown c.end_at.ensures;
    }
