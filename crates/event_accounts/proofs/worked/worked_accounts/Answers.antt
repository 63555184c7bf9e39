use Rattle.std.proofs.Common.{refl}
use Rattle.std.specs.Fmt.{digits}
use Rattle.event_accounts.proofs.worked.worked_accounts.Goals as goal

pub returns-clause-overwritten_lines : goal.returns-clause-overwritten_lines
unfolding digits
returns-clause-overwritten_lines c = refl

pub returns-clause-idle_lines : goal.returns-clause-idle_lines
unfolding digits
returns-clause-idle_lines c = refl
