use Rattle.std.proofs.Common.{refl}
use Rattle.std.specs.Fmt.{digits}
use Rattle.journal_text.proofs.worked.worked_texts.Goals as goal

pub returns-clause-lamp : goal.returns-clause-lamp
unfolding digits
returns-clause-lamp c = refl

pub returns-clause-lamp_printed : goal.returns-clause-lamp_printed
unfolding digits
returns-clause-lamp_printed c = refl

pub returns-clause-stamped : goal.returns-clause-stamped
unfolding digits
returns-clause-stamped c = refl

pub returns-clause-join : goal.returns-clause-join
unfolding digits
returns-clause-join c = refl

pub returns-clause-limit : goal.returns-clause-limit
unfolding digits
returns-clause-limit c = refl

pub returns-clause-none : goal.returns-clause-none
unfolding digits
returns-clause-none c = refl

pub returns-clause-no_last_line : goal.returns-clause-no_last_line
unfolding digits
returns-clause-no_last_line c = refl

pub returns-clause-other_count : goal.returns-clause-other_count
unfolding digits
returns-clause-other_count c = refl

pub returns-clause-stamp_0 : goal.returns-clause-stamp_0
unfolding digits
returns-clause-stamp_0 c = refl

pub returns-clause-stamp_01 : goal.returns-clause-stamp_01
unfolding digits
returns-clause-stamp_01 c = refl

pub returns-clause-no_event : goal.returns-clause-no_event
unfolding digits
returns-clause-no_event c = refl

pub returns-clause-no_value : goal.returns-clause-no_value
unfolding digits
returns-clause-no_value c = refl

pub returns-clause-other_order : goal.returns-clause-other_order
unfolding digits
returns-clause-other_order c = refl

pub returns-clause-leading_zero : goal.returns-clause-leading_zero
unfolding digits
returns-clause-leading_zero c = refl

pub returns-clause-line_after : goal.returns-clause-line_after
unfolding digits
returns-clause-line_after c = refl

pub returns-clause-no_text : goal.returns-clause-no_text
unfolding digits
returns-clause-no_text c = refl

pub returns-clause-head_without_lf : goal.returns-clause-head_without_lf
unfolding digits
returns-clause-head_without_lf c = refl

pub returns-clause-head_alone : goal.returns-clause-head_alone
unfolding digits
returns-clause-head_alone c = refl

pub returns-clause-no_lf : goal.returns-clause-no_lf
unfolding digits
returns-clause-no_lf c = refl

pub returns-clause-two_spaces : goal.returns-clause-two_spaces
unfolding digits
returns-clause-two_spaces c = refl

pub returns-clause-space_after : goal.returns-clause-space_after
unfolding digits
returns-clause-space_after c = refl

pub returns-clause-dash_and_word : goal.returns-clause-dash_and_word
unfolding digits
returns-clause-dash_and_word c = refl

pub returns-clause-sender_with_value : goal.returns-clause-sender_with_value
unfolding digits
returns-clause-sender_with_value c = refl

pub returns-clause-state_missing : goal.returns-clause-state_missing
unfolding digits
returns-clause-state_missing c = refl

pub returns-clause-value_before_name : goal.returns-clause-value_before_name
unfolding digits
returns-clause-value_before_name c = refl

pub returns-clause-no_such_value : goal.returns-clause-no_such_value
unfolding digits
returns-clause-no_such_value c = refl

pub returns-clause-unstamped : goal.returns-clause-unstamped
unfolding digits
returns-clause-unstamped c = refl

pub returns-clause-count_before_after : goal.returns-clause-count_before_after
unfolding digits
returns-clause-count_before_after c = refl
