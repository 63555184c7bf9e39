-- Laws of monitors.
use Rattle.std.specs.Prelude.{◌≡◌, ◌≢◌, ℕ, List, [], ◌∷◌, map, flat_map, length, slice_get, Option, Some, None}
use Rattle.std.specs.List.{Contains}
use Rattle.transition_table.specs.Transitions.{AreDeterministic}
use Rattle.transition_table.specs.declared.decl.Party.TheVariants.{Env}
use Rattle.transition_table.specs.declared.network.Network.{Network}
use Rattle.journals.specs.declared.entry.Entry.{Entry}
use Rattle.journals.specs.declared.entry.TraceItem.{TraceItem}
use Rattle.journals.specs.Journals.{IsJournal, IsTrace, sent}
use Rattle.journals.specs.Outputs.{outputs}
use Rattle.journals.specs.Schedules.{IsSchedule}
use Rattle.run_watch.specs.Emissions.{placed_outputs}
use Rattle.run_watch.specs.Monitors.{IsMonitor, heard, then_settle, watch_trace, watched}
use Rattle.run_watch.specs.Watches.{IsAnswer, StandsAt, sources}
use Rattle.run_watch.specs.declared.answer.Watched.{Watched}
use Rattle.run_watch.specs.declared.emission.Emission.{Emission}

-- the outputs with their places are the outputs
abbrev pub PlacedAreOutputs : Type 0
PlacedAreOutputs =
    (net : Network) (journal : List Entry)
    → map (λ x. (x.event, x.code)) (placed_outputs net journal) ≡ outputs net journal

-- an output is told by the event that it is heard as, with its code, and by the wish to wait; one
-- that isn't heard by nothing
abbrev pub items_as : Option ℕ → ℕ → List TraceItem
items_as None code = []
items_as (Some w) code = then_settle w code

abbrev pub items_of : Network → Network → ℕ × ℕ → List TraceItem
items_of net monitor (e, code) = items_as (watched net monitor e) code

-- the trace on which a monitor hears a journal tells its outputs, one after another
abbrev pub TraceTellsOutputs : Type 0
TraceTellsOutputs =
    (net monitor : Network) (journal : List Entry)
    → watch_trace net monitor journal ≡ flat_map (items_of net monitor) (outputs net journal)

-- what a monitor hears of a journal of the network is a trace of the monitor
abbrev pub TraceFits : Type 0
TraceFits =
    (net monitor : Network) (journal : List Entry)
    → IsMonitor net monitor
    → IsJournal net journal
    → IsTrace monitor (watch_trace net monitor journal)

-- there are as many sources for a machine as events that it is sent
abbrev pub SourcesInStep : Type 0
SourcesInStep =
    (net monitor : Network) (journal watch : List Entry) (m : ℕ)
    → length (sources monitor (heard net monitor journal) m)
    ≡ length (sent monitor (watch_trace net monitor journal) Env m watch)

-- where the monitor's journal has an output, the complaint stands at a place
abbrev pub ComplaintStands : Type 0
ComplaintStands =
    (net monitor : Network) (journal watch : List Entry) (n : ℕ)
    → IsMonitor net monitor
    → IsJournal net journal
    → IsSchedule monitor (watch_trace net monitor journal) n watch
    → outputs monitor watch ≢ []
    → (place : ℕ) × StandsAt monitor (heard net monitor journal) watch place

-- and at no other
abbrev pub OnePlace : Type 0
OnePlace =
    (monitor : Network) (heard : List Emission) (watch : List Entry) (p q : ℕ)
    → StandsAt monitor heard watch p
    → StandsAt monitor heard watch q
    → p ≡ q

-- the entry at this place emits an output that the monitor has an event for
pub record EmitsHeard (net monitor : Network) (journal : List Entry) (place : ℕ) : Type 0 where
  pub entry : Entry
  pub there : slice_get journal place ≡ Some entry
  pub event : ℕ
  pub code : ℕ
  pub emits : Contains (outputs net (entry ∷ [])) (event, code)
  pub heard_as : ℕ
  pub heard : watched net monitor event ≡ Some heard_as

-- so does the one at which a complaint stands
abbrev pub StandsAtHeard : Type 0
StandsAtHeard =
    (net monitor : Network) (journal watch : List Entry) (place : ℕ)
    → StandsAt monitor (heard net monitor journal) watch place
    → EmitsHeard net monitor journal place

-- each monitor says something of each journal
abbrev pub SomeAnswer : Type 0
SomeAnswer =
    (net monitor : Network) (journal : List Entry)
    → IsMonitor net monitor
    → IsJournal net journal
    → (answer : Watched) × IsAnswer net monitor journal answer

-- a deterministic monitor says one thing at most of a journal
abbrev pub OneAnswer : Type 0
OneAnswer =
    (net monitor : Network) (journal : List Entry) (a b : Watched)
    → AreDeterministic monitor
    → IsMonitor net monitor
    → IsJournal net journal
    → IsAnswer net monitor journal a
    → IsAnswer net monitor journal b
    → a ≡ b

-- What follows from the definitions.
pub record WatchLaws : Type 0 where
  pub placed : PlacedAreOutputs
  pub tells : TraceTellsOutputs
  pub fits : TraceFits
  pub in_step : SourcesInStep
  pub stands : ComplaintStands
  pub one_place : OnePlace
  pub emits : StandsAtHeard
  pub some : SomeAnswer
  pub one : OneAnswer
