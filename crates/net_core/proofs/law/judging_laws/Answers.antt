use Rattle.net_core.proofs.Causes.{caused_may_not_follow, one_cause}
use Rattle.net_core.proofs.law.judging_laws.Goals as goal

pub returns-clause-caused : goal.returns-clause-caused
returns-clause-caused c = caused_may_not_follow

pub returns-clause-one_cause : goal.returns-clause-one_cause
returns-clause-one_cause c = one_cause
