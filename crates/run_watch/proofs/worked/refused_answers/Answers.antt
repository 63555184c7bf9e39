use Rattle.run_watch.proofs.WorkedWatches.{not_before, not_held, not_unfinished}
use Rattle.run_watch.proofs.worked.refused_answers.Goals as goal

pub returns-clause-held : goal.returns-clause-held
returns-clause-held c = not_held

pub returns-clause-unfinished : goal.returns-clause-unfinished
returns-clause-unfinished c = not_unfinished

pub returns-clause-before : goal.returns-clause-before
returns-clause-before c = not_before
