use Rattle.rule_judge.proofs.JudgedTexts.{worked}
use Rattle.rule_judge.proofs.worked.worked_rules.Goals as goal

pub returns : goal.returns
returns c = worked
