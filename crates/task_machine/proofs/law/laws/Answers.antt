use Rattle.task_machine.proofs.LoweredLaws.{lowered_fits, lowered_computes, few_steps}
use Rattle.task_machine.proofs.law.laws.Goals as goal

pub returns-clause-lowered_fits : goal.returns-clause-lowered_fits
returns-clause-lowered_fits c = lowered_fits

pub returns-clause-lowered_computes : goal.returns-clause-lowered_computes
returns-clause-lowered_computes c = lowered_computes c.laws.ensures.numbered_goes_on

pub returns-clause-few_steps : goal.returns-clause-few_steps
returns-clause-few_steps c = few_steps c.laws.ensures.numbered_goes_on
