use Rattle.journals.proofs.Runs.{lamp_once as lamp_once_lem, lamp_empty as lamp_empty_lem, join_overwritten as join_overwritten_lem, join_settled as join_settled_lem, value_overwritten as value_overwritten_lem, two_by_priority as two_by_priority_lem, two_by_number as two_by_number_lem, two_settled as two_settled_lem, loop_three as loop_three_lem, lamp_idle as lamp_idle_lem, pong_goes_on as pong_goes_on_lem, late_landing as late_landing_lem}
use Rattle.journals.proofs.worked.worked_rows.Goals as goal

pub returns-clause-lamp_once : goal.returns-clause-lamp_once
returns-clause-lamp_once c = lamp_once_lem

pub returns-clause-lamp_empty : goal.returns-clause-lamp_empty
returns-clause-lamp_empty c = lamp_empty_lem

pub returns-clause-join_overwritten : goal.returns-clause-join_overwritten
returns-clause-join_overwritten c = join_overwritten_lem

pub returns-clause-join_settled : goal.returns-clause-join_settled
returns-clause-join_settled c = join_settled_lem

pub returns-clause-value_overwritten : goal.returns-clause-value_overwritten
returns-clause-value_overwritten c = value_overwritten_lem

pub returns-clause-two_by_priority : goal.returns-clause-two_by_priority
returns-clause-two_by_priority c = two_by_priority_lem

pub returns-clause-two_by_number : goal.returns-clause-two_by_number
returns-clause-two_by_number c = two_by_number_lem

pub returns-clause-two_settled : goal.returns-clause-two_settled
returns-clause-two_settled c = two_settled_lem

pub returns-clause-loop_three : goal.returns-clause-loop_three
returns-clause-loop_three c = loop_three_lem

pub returns-clause-lamp_idle : goal.returns-clause-lamp_idle
returns-clause-lamp_idle c = lamp_idle_lem

pub returns-clause-pong_goes_on : goal.returns-clause-pong_goes_on
returns-clause-pong_goes_on c = pong_goes_on_lem

pub returns-clause-late_landing : goal.returns-clause-late_landing
returns-clause-late_landing c = late_landing_lem
