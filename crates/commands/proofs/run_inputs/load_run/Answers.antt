use Rattle.std.proofs.Common.{inl}
use Rattle.input_files.specs.Inputs.{InputsFail}
use Rattle.commands.specs.Run.{FailsRun}
use Rattle.commands.proofs.IsMade.{files_wider}
use Rattle.commands.proofs.RunMeaning.{image_fails, run_held}
use Rattle.commands.proofs.run_inputs.load_run.Goals as goal

pub returns-in-Ok-load_image_of-clause-held : goal.returns-in-Ok-load_image_of-clause-held
returns-in-Ok-load_image_of-clause-held g c =
    run_held (g.H.Host.files c.args.host.now) c.args.run.now c.in-Ok.inputs.net
    c.in-Ok.inputs.trace c.in-Ok-load_image_of.image
    (rw (c.net.ensures, c.trace.ensures) at c.in-Ok.ensures.held)
    (rw c.in-Ok.ensures.left.files at c.in-Ok-load_image_of.ensures.held)

pub returns-in-Err-clause-failed : goal.returns-in-Err-clause-failed
returns-in-Err-clause-failed g c =
    let run = c.args.run.now in
    files_wider (g.H.Host.files c.args.host.now) (λ files. InputsFail files run.net run.trace)
    (FailsRun run) c.in-Err.failure (λ files name cause h. inl h)
    (rw (c.net.ensures, c.trace.ensures) at c.in-Err.ensures.failed)

pub returns-clause-failed : goal.returns-clause-failed
returns-clause-failed g c =
    image_fails (g.H.Host.files c.args.host.now) c.args.run.now c.in-Ok.inputs.net
    c.in-Ok.inputs.trace c.in-Err-load_image_of.failure
    (rw (c.net.ensures, c.trace.ensures) at c.in-Ok.ensures.held)
    (rw c.net.ensures at c.in-Ok.ensures.one)
    (rw c.in-Ok.ensures.left.files at c.in-Err-load_image_of.ensures.failed)
