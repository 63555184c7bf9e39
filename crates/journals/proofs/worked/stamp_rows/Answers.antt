use Rattle.std.proofs.Common.{refl}
use Rattle.std.proofs.lemmas.Bool.{false≢true}
use Rattle.journals.proofs.worked.stamp_rows.Goals as goal

pub returns-clause-lamp_once : goal.returns-clause-lamp_once
returns-clause-lamp_once c = record { least_are = refl; rising = refl }

pub returns-clause-pong_goes_on : goal.returns-clause-pong_goes_on
returns-clause-pong_goes_on c = record { least_are = refl; rising = refl }

pub returns-clause-late_landing : goal.returns-clause-late_landing
returns-clause-late_landing c = record { least_are = refl; rising = refl }

pub returns-clause-two_by_number : goal.returns-clause-two_by_number
returns-clause-two_by_number c = record { least_are = refl; rising = refl }

pub returns-clause-join_overwritten : goal.returns-clause-join_overwritten
returns-clause-join_overwritten c = record { least_are = refl; rising = refl }

pub returns-clause-loop_three : goal.returns-clause-loop_three
returns-clause-loop_three c = record { least_are = refl; rising = refl }

pub returns-clause-higher : goal.returns-clause-higher
returns-clause-higher c = refl

pub returns-clause-too_low : goal.returns-clause-too_low
returns-clause-too_low c = λ h. false≢true h

pub returns-clause-as_its_firing : goal.returns-clause-as_its_firing
returns-clause-as_its_firing c = λ h. false≢true h

pub returns-clause-too_few : goal.returns-clause-too_few
returns-clause-too_few c = λ h. false≢true h

pub returns-clause-too_great : goal.returns-clause-too_great
returns-clause-too_great c = λ h. false≢true h

pub returns-clause-from_zero : goal.returns-clause-from_zero
returns-clause-from_zero c = λ h. false≢true h
