use Rattle.std.proofs.Common.{refl}
use Rattle.std.specs.Fmt.{digits}
use Rattle.run_survey.proofs.worked.worked_watched.Goals as goal

pub returns-clause-found_line : goal.returns-clause-found_line
unfolding digits
returns-clause-found_line c = refl

pub returns-clause-unfinished_line : goal.returns-clause-unfinished_line
unfolding digits
returns-clause-unfinished_line c = refl
