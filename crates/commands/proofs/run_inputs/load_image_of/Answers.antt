use Rattle.commands.specs.ImageFiles.{ImageFails}
use Rattle.commands.proofs.IsMade.{named_fails}
use Rattle.commands.proofs.run_inputs.load_image_of.Goals as goal

pub returns-in-Err-clause-failed : goal.returns-in-Err-clause-failed
returns-in-Err-clause-failed g c =
    named_fails (g.H.Host.files c.args.host.now) c.args.run.now.image
    (λ files. ImageFails files c.args.inputs.now.net) c.in-Some.name.now c.in-Err.failure c.in-Some.ensures.some c.in-Err.ensures.failed
