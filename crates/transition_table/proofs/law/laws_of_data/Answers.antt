use Rattle.transition_table.proofs.SameData.{same_row, same_machine, same_network}
use Rattle.transition_table.proofs.law.laws_of_data.Goals as goal

pub returns : goal.returns
returns c = record { same_row = same_row; same_machine = same_machine; same_network = same_network }
