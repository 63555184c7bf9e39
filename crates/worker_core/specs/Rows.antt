-- What the definitions say of a run of the core.
use Rattle.std.specs.Prelude.{◌≡◌, ℕ, List, map}
use Rattle.transition_table.specs.declared.network.Network.{Network}
use Rattle.journals.specs.declared.entry.Entry.{Entry}
use Rattle.journals.specs.declared.entry.TraceItem.{TraceItem}
use Rattle.journals.specs.declared.stamped.CoreStep.{CoreStep}
use Rattle.worker_core.specs.Cores.{at_start, run_steps, log_of}
use Rattle.worker_core.specs.Merges.{merged}

-- the steps give this journal, and the log of m has these stamps
pub record IsCoreRun (net : Network) (trace : List TraceItem) (steps : List CoreStep) (m : ℕ)
    (stamps : List ℕ) (journal : List Entry) : Type 0 where
  pub merges : merged (run_steps net (at_start net trace) steps).logs ≡ journal
  pub stamped : map (λ x. x.stamp) (log_of (run_steps net (at_start net trace) steps) m) ≡ stamps
