use Rattle.run_survey.proofs.OneSurvey.{one_figures, one_said, one_text}
use Rattle.run_survey.proofs.law.laws.Goals as goal

pub returns-clause-figures : goal.returns-clause-figures
returns-clause-figures c =
    one_figures c.laws.ensures.one (one_said c.laws.ensures.legal c.laws-2.ensures.one)

pub returns-clause-text : goal.returns-clause-text
returns-clause-text c =
    one_text c.laws.ensures.one (one_said c.laws.ensures.legal c.laws-2.ensures.one)
