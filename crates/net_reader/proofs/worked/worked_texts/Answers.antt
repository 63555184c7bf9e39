use Rattle.net_reader.proofs.WorkedTexts.{lamp_declares, lamp_lacks_last, lamp_cut, echo_declares, input_declares, input_in_1, input_in_3, given_in_3, sum_in_1, sum_emitted}
use Rattle.net_reader.proofs.worked.worked_texts.Goals as goal

pub returns-clause-lamp : goal.returns-clause-lamp
returns-clause-lamp c = lamp_declares

pub returns-clause-echo : goal.returns-clause-echo
returns-clause-echo c = echo_declares

pub returns-clause-input : goal.returns-clause-input
returns-clause-input c = input_declares

pub returns-clause-input_in_1 : goal.returns-clause-input_in_1
returns-clause-input_in_1 c = input_in_1

pub returns-clause-input_in_3 : goal.returns-clause-input_in_3
returns-clause-input_in_3 c = input_in_3

pub returns-clause-given_in_3 : goal.returns-clause-given_in_3
returns-clause-given_in_3 c = given_in_3

pub returns-clause-sum_in_1 : goal.returns-clause-sum_in_1
returns-clause-sum_in_1 c = sum_in_1

pub returns-clause-sum_emitted : goal.returns-clause-sum_emitted
returns-clause-sum_emitted c = sum_emitted

pub returns-clause-lacks_last : goal.returns-clause-lacks_last
returns-clause-lacks_last c = lamp_lacks_last

pub returns-clause-lamp_cut : goal.returns-clause-lamp_cut
returns-clause-lamp_cut c = lamp_cut
