use Rattle.run_survey.proofs.TenRuns.{ten_survey, ten_text}
use Rattle.run_survey.proofs.worked.worked_two.Goals as goal

pub returns-clause-survey : goal.returns-clause-survey
returns-clause-survey c = ten_survey c.laws.ensures.complete

pub returns-clause-text : goal.returns-clause-text
returns-clause-text c = ten_text
