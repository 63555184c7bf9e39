use Rattle.transition_table.proofs.Computed.{outcome_by_rows, only_by_rows, results_fit}
use Rattle.transition_table.proofs.SupportByTest.{char_by_test, support_by_test, same_on_support}
use Rattle.transition_table.proofs.law.laws_of_computing.Goals as goal

pub returns : goal.returns
returns c = record {
  outcome_by_rows = outcome_by_rows;
  only_by_rows = only_by_rows;
  results_fit = results_fit;
  char_by_test = char_by_test;
  support_by_test =
      support_by_test c.laws_of_all_codes.ensures.lists_fit c.laws_of_all_codes.ensures.lists_all;
  same_on_support = same_on_support c.laws_of_all_codes.ensures.lists_all;
}
