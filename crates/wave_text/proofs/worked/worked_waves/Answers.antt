use Rattle.std.proofs.Common.{refl}
use Rattle.std.specs.Fmt.{digits}
use Rattle.wave_text.proofs.worked.worked_waves.Goals as goal

pub returns-clause-lamp : goal.returns-clause-lamp
unfolding digits
returns-clause-lamp c = refl

pub returns-clause-lamp_still : goal.returns-clause-lamp_still
unfolding digits
returns-clause-lamp_still c = refl

pub returns-clause-lost_alone : goal.returns-clause-lost_alone
unfolding digits
returns-clause-lost_alone c = refl

pub returns-clause-idle_changes_nothing : goal.returns-clause-idle_changes_nothing
unfolding digits
returns-clause-idle_changes_nothing c = refl

pub returns-clause-last_idle : goal.returns-clause-last_idle
unfolding digits
returns-clause-last_idle c = refl

pub returns-clause-value : goal.returns-clause-value
unfolding digits
returns-clause-value c = refl

pub returns-clause-echo : goal.returns-clause-echo
unfolding digits
returns-clause-echo c = refl
