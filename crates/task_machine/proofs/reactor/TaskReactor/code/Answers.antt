use Rattle.task_machine.proofs.reactor.TaskReactor.code.Goals as goal

pub returns-clause-fits : goal.returns-clause-fits
returns-clause-fits c = λ machine at.
    c.args.self.now.tasks.fits c.args.m machine c.get.result.now at
    (rw (← c.from.ensures) c.get.ensures)
