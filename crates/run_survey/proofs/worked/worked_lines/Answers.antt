use Rattle.std.proofs.Common.{refl}
use Rattle.std.specs.Fmt.{digits}
use Rattle.run_survey.proofs.worked.worked_lines.Goals as goal

pub returns-clause-lost : goal.returns-clause-lost
unfolding digits
returns-clause-lost c = refl
