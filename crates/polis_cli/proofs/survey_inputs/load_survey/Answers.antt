use Rattle.std.proofs.Common.{inl}
use Rattle.input_files.specs.Inputs.{InputsFail}
use Rattle.polis_cli.specs.Survey.{FailsSurvey}
use Rattle.commands.proofs.IsMade.{files_wider}
use Rattle.polis_cli.proofs.SurveyMeaning.{monitor_of_fails, survey_held}
use Rattle.polis_cli.proofs.survey_inputs.load_survey.Goals as goal

pub returns-in-Ok-load_monitor_of-clause-held : goal.returns-in-Ok-load_monitor_of-clause-held
returns-in-Ok-load_monitor_of-clause-held g c =
    survey_held (g.H.Host.files c.args.host.now) c.args.asked.now c.in-Ok.inputs.net
    c.in-Ok.inputs.trace c.in-Ok-load_monitor_of.monitor
    (rw (c.net.ensures, c.trace.ensures) at c.in-Ok.ensures.held)
    (rw c.in-Ok.ensures.left.files at c.in-Ok-load_monitor_of.ensures.held)

pub returns-in-Err-clause-failed : goal.returns-in-Err-clause-failed
returns-in-Err-clause-failed g c =
    let asked = c.args.asked.now in
    files_wider (g.H.Host.files c.args.host.now)
    (λ files. InputsFail files asked.net asked.trace) (FailsSurvey asked) c.in-Err.failure
    (λ files name cause h. inl h) (rw (c.net.ensures, c.trace.ensures) at c.in-Err.ensures.failed)

pub returns-clause-failed : goal.returns-clause-failed
returns-clause-failed g c =
    monitor_of_fails (g.H.Host.files c.args.host.now) c.args.asked.now c.in-Ok.inputs.net
    c.in-Ok.inputs.trace c.in-Err-load_monitor_of.failure
    (rw (c.net.ensures, c.trace.ensures) at c.in-Ok.ensures.held)
    (rw c.in-Ok.ensures.left.files at c.in-Err-load_monitor_of.ensures.failed)
