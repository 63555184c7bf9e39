use Rattle.worker_core.specs.Cores.{at_start}
use Rattle.worker_core.proofs.StoppedIsComplete.{stopped_is_complete, length_merged}
use Rattle.worker_core.proofs.ByMachine.{reacts_by_machine, lands_by_machine, frees_by_machine}
use Rattle.worker_core.proofs.IsCore.{start_is_core, step_keeps, run_is_core, core_runs_well}
use Rattle.worker_core.proofs.law.core_laws.Goals as goal

pub returns : goal.returns
returns c = record {
  start = λ net trace. start_is_core net trace c.known.ensures;
  steps = λ net trace state next step. step_keeps net trace state next step c.known.ensures;
  reacts = reacts_by_machine;
  lands = lands_by_machine;
  frees = frees_by_machine;
  stopped = λ net trace state. stopped_is_complete net trace state c.known.ensures;
  has_all = length_merged;
  well = λ net trace state. core_runs_well net trace state c.known.ensures;
  runs =
      λ net trace steps h.
      let start = start_is_core net trace c.known.ensures h in
      core_runs_well net trace _ c.known.ensures
      (run_is_core net trace (at_start net trace) steps c.known.ensures start);
}
