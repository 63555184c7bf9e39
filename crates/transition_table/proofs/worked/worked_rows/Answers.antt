use Rattle.std.proofs.Common.{lit≤}
use Rattle.transition_table.specs.samples.Lamp.{lamp_machine}
use Rattle.transition_table.proofs.Determinism.{one_row}
use Rattle.transition_table.proofs.Supports.{echo_char, echo_counts, echo_passes_on}
use Rattle.transition_table.proofs.Tables.{lamp_pressed, lamp_on, lamp_unpressed, loop_first, loop_second, loop_third, loop_end, value_five, value_four, clash, echo_six, echo_absent, agreeing, differing}
use Rattle.transition_table.proofs.worked.worked_rows.Goals as goal

pub returns : goal.returns
returns c = record {
  lamp_pressed = lamp_pressed;
  lamp_on = lamp_on;
  lamp_unpressed = lamp_unpressed;
  lamp_sure = one_row lamp_machine (lit≤ tt);
  loop_first = loop_first;
  loop_second = loop_second;
  loop_third = loop_third;
  loop_end = loop_end;
  value_five = value_five;
  value_four = value_four;
  echo_six = echo_six;
  echo_absent = echo_absent;
  echo_char = echo_char;
  echo_counts = echo_counts;
  echo_passes_on = echo_passes_on;
  agreeing = agreeing;
  differing = differing;
  clash = clash;
}
