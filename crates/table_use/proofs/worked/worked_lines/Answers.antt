use Rattle.std.proofs.Common.{refl}
use Rattle.std.specs.Fmt.{digits}
use Rattle.table_use.proofs.worked.worked_lines.Goals as goal

pub returns-clause-join_used : goal.returns-clause-join_used
unfolding digits
returns-clause-join_used c = refl

pub returns-clause-odd_used : goal.returns-clause-odd_used
unfolding digits
returns-clause-odd_used c = refl

pub returns-clause-join_lint : goal.returns-clause-join_lint
unfolding digits
returns-clause-join_lint c = refl

pub returns-clause-odd_lint : goal.returns-clause-odd_lint
unfolding digits
returns-clause-odd_lint c = refl
