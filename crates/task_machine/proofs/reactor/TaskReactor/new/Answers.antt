use Rattle.task_machine.proofs.GiveOutcomes.{give_outcomes}
use Rattle.task_machine.proofs.reactor.TaskReactor.new.Goals as goal

pub invariant_of-result : goal.invariant_of-result
invariant_of-result c = record {
  deterministic = c.requires.deterministic;
  tasks = give_outcomes c.laws_of_computing.ensures.only_by_rows c.args.net.now c.args.codes
      c.requires.deterministic c.requires.tasks;
}
