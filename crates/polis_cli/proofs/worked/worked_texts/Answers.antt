use Rattle.std.proofs.Common.{refl}
use Rattle.std.specs.Fmt.{digits}
use Rattle.polis_cli.proofs.worked.worked_texts.Goals as goal

pub returns-clause-trace : goal.returns-clause-trace
returns-clause-trace c = refl

pub returns-clause-journal : goal.returns-clause-journal
unfolding digits
returns-clause-journal c = refl

pub returns-clause-outputs : goal.returns-clause-outputs
returns-clause-outputs c = refl

pub returns-clause-summary : goal.returns-clause-summary
unfolding digits
returns-clause-summary c = refl

pub returns-clause-listing : goal.returns-clause-listing
unfolding digits
returns-clause-listing c = refl

pub returns-clause-tries : goal.returns-clause-tries
unfolding digits
returns-clause-tries c = refl

pub returns-clause-lengths : goal.returns-clause-lengths
unfolding digits
returns-clause-lengths c = refl
