use Rattle.std.proofs.Common.{refl}
use Rattle.polis_cli.specs.Survey.{FailsSurvey, survey_meaning}
use Rattle.commands.proofs.IsMade.{files_failure}
use Rattle.polis_cli.proofs.SurveyMeaning.{survey_made}
use Rattle.polis_cli.proofs.survey.make_survey.Goals as goal

pub returns-in-Ok-product_alone-clause-made : goal.returns-in-Ok-product_alone-clause-made
returns-in-Ok-product_alone-clause-made g c =
    survey_made (g.H.Host.files c.args.host.now) c.args.asked.now c.in-Ok.loaded
    c.in-Ok-product_alone.product c.in-Ok.ensures.held c.in-Ok.ensures.fits c.in-Ok-product_alone.ensures

pub returns-in-Err-clause-made : goal.returns-in-Err-clause-made
returns-in-Err-clause-made g c =
    let asked = c.args.asked.now in
    files_failure (survey_meaning asked) (g.H.Host.files c.args.host.now) (FailsSurvey asked)
    c.in-Err.failure refl (λ told name cause. refl) (λ files name cause h. h)
    c.in-Err.ensures.failed
