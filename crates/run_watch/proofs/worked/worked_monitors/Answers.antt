use Rattle.run_watch.proofs.WorkedWatches.{loud_watches, not_of_itself, not_the_lamp, order_watches, restless_watches}
use Rattle.run_watch.proofs.worked.worked_monitors.Goals as goal

pub returns-clause-order : goal.returns-clause-order
returns-clause-order c = order_watches

pub returns-clause-loud : goal.returns-clause-loud
returns-clause-loud c = loud_watches

pub returns-clause-restless : goal.returns-clause-restless
returns-clause-restless c = restless_watches

pub returns-clause-itself : goal.returns-clause-itself
returns-clause-itself c = not_of_itself

pub returns-clause-other : goal.returns-clause-other
returns-clause-other c = not_the_lamp
