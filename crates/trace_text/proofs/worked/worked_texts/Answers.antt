use Rattle.std.proofs.Common.{refl}
use Rattle.std.specs.Fmt.{digits}
use Rattle.trace_text.proofs.worked.worked_texts.Goals as goal

pub returns-clause-values : goal.returns-clause-values
unfolding digits
returns-clause-values c = refl

pub returns-clause-no_value : goal.returns-clause-no_value
unfolding digits
returns-clause-no_value c = refl

pub returns-clause-leading_zero : goal.returns-clause-leading_zero
unfolding digits
returns-clause-leading_zero c = refl

pub returns-clause-missing : goal.returns-clause-missing
unfolding digits
returns-clause-missing c = refl
