use Rattle.std.proofs.Common.{refl}
use Rattle.std.specs.Fmt.{digits}
use Rattle.run_watch.proofs.worked.worked_lines.Goals as goal

pub returns-clause-found : goal.returns-clause-found
unfolding digits
returns-clause-found c = refl
