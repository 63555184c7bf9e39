use Rattle.machine_equiv.proofs.WorkedRows.{not_earlier, not_later, not_nowhere, not_same}
use Rattle.machine_equiv.proofs.worked.refused_rows.Goals as goal

pub returns : goal.returns
returns c = record {
  same = not_same;
  later = not_later;
  earlier = not_earlier;
  nowhere = not_nowhere;
}
