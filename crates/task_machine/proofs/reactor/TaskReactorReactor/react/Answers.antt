use Rattle.task_machine.proofs.GiveOutcomes.{of_one, reacted}
use Rattle.task_machine.proofs.reactor.TaskReactorReactor.react.Goals as goal

pub run-requires : goal.run-requires
run-requires c =
    of_one c.args.self.now.net.now c.args.self.now.codes c.args.m c.get.result.now c.args.s.now
    c.args.o.now c.args.self.now.tasks (rw (← c.from.ensures) c.get.ensures) c.requires.snapshot
    c.requires.widths

pub returns : goal.returns
returns c = reacted c.laws_of_computing.ensures.outcome_by_rows c.args.self.now.net.now
    c.args.self.now.codes c.args.m c.get.result.now c.args.s.now c.args.o.now c.run.new.o
    c.args.self.now.tasks (rw (← c.from.ensures) c.get.ensures) c.requires.snapshot
    c.requires.widths c.run.ensures.outcome
