use Rattle.std.proofs.Common.{refl}
use Rattle.commands.specs.Run.{FailsRun, run_meaning}
use Rattle.commands.proofs.IsMade.{files_failure}
use Rattle.commands.proofs.RunMeaning.{run_made}
use Rattle.commands.proofs.run.make_run_by.Goals as goal

pub returns-in-Ok-run_loaded_by-clause-made : goal.returns-in-Ok-run_loaded_by-clause-made
returns-in-Ok-run_loaded_by-clause-made g c =
    run_made (g.H.Host.files c.args.host.now) c.args.run.now c.in-Ok.loaded
    c.in-Ok-run_loaded_by.product c.in-Ok.ensures.held c.in-Ok-run_loaded_by.ensures

pub returns-in-Err-clause-made : goal.returns-in-Err-clause-made
returns-in-Err-clause-made g c =
    let run = c.args.run.now in
    files_failure (run_meaning run) (g.H.Host.files c.args.host.now) (FailsRun run)
    c.in-Err.failure refl (λ told name cause. refl) (λ files name cause h. h) c.in-Err.ensures.failed
