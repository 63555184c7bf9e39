use Rattle.machine_equiv.proofs.HaveSameRuns.{same_runs}
use Rattle.machine_equiv.proofs.OneComparison.{no_difference, one_comparison, one_net_comparison, same_forms}
use Rattle.machine_equiv.proofs.StandIn.{same_rows}
use Rattle.machine_equiv.proofs.law.laws.Goals as goal

pub returns : goal.returns
returns c = record {
  same_forms = same_forms;
  same_rows = same_rows;
  no_difference = no_difference;
  one_comparison = one_comparison;
  one_net_comparison = one_net_comparison;
  same_runs = same_runs;
}
