use Rattle.transition_table.proofs.Determinism.{one_row, no_conflicts, some_outcome, have_widths, codes_fit, idle_is_blank, one_outcome, transition_fits, inputs_are_present}
use Rattle.transition_table.proofs.law.laws.Goals as goal

pub returns : goal.returns
returns c = record {
  one_row = one_row;
  no_conflicts = no_conflicts;
  some_outcome = some_outcome;
  have_widths = have_widths;
  codes_fit = codes_fit;
  idle_is_blank = idle_is_blank;
  one_outcome =
      one_outcome;
  transition_fits = transition_fits;
  inputs_are_present = inputs_are_present;
}
