use Rattle.run_watch.proofs.WorkedWatches.{cut as cut_lem, kept as kept_lem, late as late_lem, told as told_lem}
use Rattle.run_watch.proofs.worked.worked_answers.Goals as goal

pub returns-clause-late : goal.returns-clause-late
returns-clause-late c = late_lem

pub returns-clause-kept : goal.returns-clause-kept
returns-clause-kept c = kept_lem

pub returns-clause-told : goal.returns-clause-told
returns-clause-told c = told_lem

pub returns-clause-cut : goal.returns-clause-cut
returns-clause-cut c = cut_lem
