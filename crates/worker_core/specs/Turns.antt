-- One step of a core that is left to itself.
use Rattle.std.specs.Prelude.{◌≡◌, ◌⊎◌, ℕ, ◌<◌, List, length}
use Rattle.transition_table.specs.declared.network.Network.{Network}
use Rattle.journals.specs.declared.entry.Entry.{Entry}
use Rattle.journals.specs.declared.entry.TraceItem.{TraceItem}
use Rattle.journals.specs.Legality.{Complete}
use Rattle.journals.specs.declared.stamped.CoreStep.{CoreStep}
use Rattle.worker_core.specs.Cores.{at_start, run_steps}
use Rattle.worker_core.specs.Merges.{merged}

-- so many entries, or fewer and complete
abbrev pub IsWhole : Network → List TraceItem → ℕ → List Entry → Type 0
IsWhole net trace count journal =
    (length journal ≡ count) ⊎ ((length journal < count) × Complete net trace journal)

-- it is the merge of the logs that some steps of the core make of the start
pub record IsRun (net : Network) (trace : List TraceItem) (journal : List Entry) : Type 0 where
  pub steps : List CoreStep
  pub merges : journal ≡ merged (run_steps net (at_start net trace) steps).logs
