use Rattle.std.proofs.Common.{inl, refl, subst, sym}
use Rattle.polis_words.specs.declared.cause.Failure.{Failure}
use Rattle.input_files.specs.Failures.{FileFails, explains_nothing}
use Rattle.input_files.specs.Inputs.{NetFails}
use Rattle.input_files.proofs.FileFails.{file_fails}
use Rattle.commands.specs.Monitors.{MonitorFails}
use Rattle.commands.proofs.MonitorFails.{monitor_faulty}
use Rattle.commands.proofs.monitor_file.load_monitor.Goals as goal

pub returns-in-Err-clause-failed : goal.returns-in-Err-clause-failed
returns-in-Err-clause-failed g c =
    let name = c.args.name.now in
    file_fails name (g.H.Host.files c.args.host.now) (λ files. NetFails files name)
    (λ files. MonitorFails files c.args.net.now name) explains_nothing c.in-Err.failure
    (λ files cause h. inl h) c.in-Err.ensures.failed

pub returns-then-not-is_monitor-clause-failed : goal.returns-then-not-is_monitor-clause-failed
returns-then-not-is_monitor-clause-failed g c =
    let o = g.H.Host.files c.args.host.now in
    let net = c.args.net.now in
    let name = c.args.name.now in
    subst (λ (f : Failure). FileFails name o (λ files. MonitorFails files net name) f)
    (sym c.of.ensures) (
      (
        refl,
        monitor_faulty o net name c.in-Ok.monitor c.in-Ok.ensures.held
            (λ is. let told = c.is_monitor.ensures.1 is in cc),
        refl,
      ),
      refl,
    )
