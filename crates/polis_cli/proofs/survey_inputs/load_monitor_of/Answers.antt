use Rattle.std.proofs.Common.{ap, sym}
use Rattle.std.specs.Prelude.{is_some}
use Rattle.commands.specs.Monitors.{MonitorFails}
use Rattle.commands.proofs.IsMade.{named_fails}
use Rattle.polis_cli.proofs.SurveyMeaning.{monitor_of_held}
use Rattle.polis_cli.proofs.survey_inputs.load_monitor_of.Goals as goal

pub returns-in-Ok-clause-held : goal.returns-in-Ok-clause-held
returns-in-Ok-clause-held g c =
    monitor_of_held (g.H.Host.files c.args.host.now) c.args.asked.now.monitor c.args.net.now
    c.in-Some.name.now c.in-Ok.monitor c.in-Some.ensures.some c.in-Ok.ensures.held

pub returns-in-Ok-clause-named : goal.returns-in-Ok-clause-named
returns-in-Ok-clause-named g c = sym (ap is_some c.in-Some.ensures.some)

pub returns-in-None-clause-named : goal.returns-in-None-clause-named
returns-in-None-clause-named g c = sym (ap is_some c.in-None.ensures.none)

pub returns-in-Err-clause-failed : goal.returns-in-Err-clause-failed
returns-in-Err-clause-failed g c =
    named_fails (g.H.Host.files c.args.host.now) c.args.asked.now.monitor
    (λ files. MonitorFails files c.args.net.now) c.in-Some.name.now c.in-Err.failure
    c.in-Some.ensures.some c.in-Err.ensures.failed
