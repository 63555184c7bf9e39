-- Laws of the core.
use Rattle.std.specs.Prelude.{◌≡◌, ℕ, ◌<◌, nat_le, List, ◌++◌, length, Some, None, IsTrue}
use Rattle.std.specs.List.{list_all}
use Rattle.transition_table.specs.declared.decl.Party.{Party}
use Rattle.transition_table.specs.declared.network.Network.{Network}
use Rattle.journals.specs.declared.entry.TraceItem.{TraceItem}
use Rattle.journals.specs.Journals.{IsTrace, delivered, sent}
use Rattle.journals.specs.Legality.{Legal, Complete}
use Rattle.journals.specs.declared.stamped.CoreStep.{CoreStep}
use Rattle.journals.specs.declared.stamped.Stamped.{Stamped}
use Rattle.worker_core.specs.Cores.{CoreState, at_start, take_step, run_steps, log_of, hand_of}
use Rattle.journals.specs.Logs.{max_stamp, entries}
use Rattle.worker_core.specs.Facts.{IsCore, count_entries, log_of_party, on_way, held_by}
use Rattle.worker_core.specs.Merges.{merged, merged_stamps}
use Rattle.journals.specs.Stamps.{least}
use Rattle.worker_core.specs.ByMachine.{ReactsByMachine, LandsByMachine, FreesByMachine}

-- the start is a core
abbrev pub StartIsCore : Type 0
StartIsCore =
    (net : Network) (trace : List TraceItem) → IsTrace net trace
    → IsCore net trace (at_start net trace)

-- a step leads from a core to a core
abbrev pub StepsKeepCores : Type 0
StepsKeepCores =
    (net : Network) (trace : List TraceItem) (state next : CoreState) (step : CoreStep)
    → IsCore net trace state → take_step net state step ≡ Some next → IsCore net trace next

-- Where no step can be taken, and stamps are left, the merged logs are complete. They have each
-- entry once.
abbrev pub StoppedIsComplete : Type 0
StoppedIsComplete =
    (net : Network) (trace : List TraceItem) (state : CoreState)
    → IsCore net trace state
    → count_entries state.logs < max_stamp
    → ((step : CoreStep) → take_step net state step ≡ None)
    → Complete net trace (merged state.logs)

abbrev pub MergedHasAll : Type 0
MergedHasAll = (logs : List (List Stamped)) → length (merged logs) ≡ count_entries logs

-- What is true after any steps. The merged logs are a legal journal, and their stamps are its
-- least ones. For each sender and machine what landed, with what is in hand or in the rest after
-- it, is what was sent. No stamp is above the number of all entries.
pub record RunsWell (net : Network) (trace : List TraceItem) (state : CoreState) : Type 0 where
  pub legal : Legal net trace (merged state.logs)
  pub least_stamps : least net (merged state.logs) ≡ merged_stamps state.logs
  pub on_the_way : (s : Party) (m : ℕ)
      → delivered s m (entries (log_of state m))
      ++ on_way s m (held_by (hand_of state) state.rest s)
      ≡ sent net trace s m (entries (log_of_party (log_of state) s))
  pub within : (m : ℕ)
      → IsTrue (list_all (λ x. nat_le x.stamp (count_entries state.logs)) (log_of state m))

-- a core runs well
abbrev pub CoresRunWell : Type 0
CoresRunWell =
    (net : Network) (trace : List TraceItem) (state : CoreState) → IsCore net trace state
    → RunsWell net trace state

-- so what any steps make of the start does
abbrev pub EachRunIsWell : Type 0
EachRunIsWell =
    (net : Network) (trace : List TraceItem) (steps : List CoreStep) → IsTrace net trace
    → RunsWell net trace (run_steps net (at_start net trace) steps)

-- What follows from the definitions.
pub record CoreLaws : Type 0 where
  pub start : StartIsCore
  pub steps : StepsKeepCores
  pub reacts : ReactsByMachine
  pub lands : LandsByMachine
  pub frees : FreesByMachine
  pub stopped : StoppedIsComplete
  pub has_all : MergedHasAll
  pub well : CoresRunWell
  pub runs : EachRunIsWell
