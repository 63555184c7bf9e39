use Rattle.journals.proofs.Runs.{two_by_number, two_by_priority}
use Rattle.machine_equiv.proofs.WorkedRows
use Rattle.machine_equiv.proofs.worked.worked_rows.Goals as goal

pub returns : goal.returns
returns c = record {
  itself = WorkedRows.itself;
  idle_row = WorkedRows.idle_row;
  at_five = WorkedRows.at_five;
  first = WorkedRows.first;
  other_form = WorkedRows.other_form;
  other_shape = WorkedRows.other_shape;
  priorities = record {
    shape = WorkedRows.two_shape;
    same = WorkedRows.two_tables;
    first_follows = two_by_priority.follows;
    second_follows = two_by_number.follows;
    differ = WorkedRows.scheduled_apart;
  };
}
