use Rattle.std.proofs.Common.{ap, ◌∙◌}
use Rattle.run_survey.specs.SurveyLines.{survey_lines}
use Rattle.run_survey.specs.Watching.{ending_of}
use Rattle.polis_cli.specs.Survey.{end_surveyed}
use Rattle.commands.proofs.IsMade.{product_ends}
use Rattle.polis_cli.proofs.survey.product_of.Goals as goal

pub returns : goal.returns
returns c =
    let loaded = c.args.loaded.now in
    let told = c.args.told.now in
    product_ends c.ending-2.result c.in_ok-shown.shown
    (survey_lines loaded.inputs.net loaded.monitor told) c.end_at.result
    (end_surveyed (ending_of told)) c.ending-2.ensures c.in_ok-shown.ensures
    (c.end_at.ensures ∙ ap end_surveyed c.ending.ensures)
