-- Which networks are monitors of another, and what a monitor hears of a journal.
use Rattle.std.specs.Prelude.{◌≡◌, ℕ, Bool, false, ◌&&◌, List, [], ◌∷◌, filter_map, find, flat_map, length, slice_get, Option, Some, option_map, unwrap_or, IsTrue}
use Rattle.polis_base.specs.Lists.{upto}
use Rattle.domains.specs.Names.{is_same}
use Rattle.transition_table.specs.NetworkNames.{event_name}
use Rattle.transition_table.specs.declared.decl.EventDecl.{EventDecl}
use Rattle.transition_table.specs.declared.decl.Party.TheVariants.{Env}
use Rattle.transition_table.specs.declared.network.Network.{Network}
use Rattle.transition_table.specs.EventWords.{event_words}
use Rattle.journals.specs.declared.entry.Entry.{Entry}
use Rattle.journals.specs.declared.entry.TraceItem.{TraceItem}
use Rattle.journals.specs.declared.entry.TraceItem.TheVariants.{Event, Settle}
use Rattle.journals.specs.Journals.{same_party}
use Rattle.run_watch.specs.Emissions.{placed_outputs}
use Rattle.run_watch.specs.declared.emission.Emission.{Emission}

-- ---- monitors

-- the event of the network goes to the environment, and has the name of the monitor's event, and
-- values of the same words in the same order, or none like it
pub record IsHeardAs (net : Network) (output : EventDecl) (monitor : Network) (event : EventDecl)
    : Type 0 where
  pub name : output.name ≡ event.name
  pub to_env : IsTrue output.to_env
  pub words : event_words net output ≡ event_words monitor event

-- the network has such an event
pub record HasOutput (net monitor : Network) (event : EventDecl) : Type 0 where
  pub number : ℕ
  pub output : EventDecl
  pub there : slice_get net.events number ≡ Some output
  pub heard : IsHeardAs net output monitor event

-- so it is of each event that the environment of the monitor sends
abbrev pub IsMonitor : Network → Network → Type 0
IsMonitor net monitor =
    (w : ℕ) (event : EventDecl)
    → slice_get monitor.events w ≡ Some event
    → event.sender ≡ Env
    → HasOutput net monitor event

-- ---- what a monitor hears

-- the environment sends the event, and it has this name
abbrev pub hears : List ℕ → EventDecl → Bool
hears name event = same_party event.sender Env && is_same event.name name

abbrev pub hears_at : Network → List ℕ → ℕ → Bool
hears_at monitor name w =
    unwrap_or (option_map (hears name) (slice_get monitor.events w)) false

-- the event of the monitor that an event of the network is heard as: the one of its name that the
-- environment sends, if there is one
abbrev pub watched : Network → Network → ℕ → Option ℕ
watched net monitor e =
    find (hears_at monitor (event_name net e)) (upto (length monitor.events))

-- what is heard of an emission where an event is heard as the one of this number: that event with
-- the code, at the same place
abbrev pub heard_by : (ℕ → Option ℕ) → Emission → Option Emission
heard_by number x =
    option_map (λ w. record { place = x.place; event = w; code = x.code }) (number x.event)

-- what the monitor hears of a journal: of each output that it has an event for
abbrev pub heard : Network → Network → List Entry → List Emission
heard net monitor journal =
    filter_map (heard_by (watched net monitor)) (placed_outputs net journal)

-- ---- the trace of a monitor

-- an event with its code, and then the wish to wait
abbrev pub then_settle : ℕ → ℕ → List TraceItem
then_settle w code = Event w code ∷ Settle ∷ []

-- so for each event that is heard
abbrev pub settled : List Emission → List TraceItem
settled heard = flat_map (λ x. then_settle x.event x.code) heard

-- of a journal: each event that the monitor hears of it, and after each it waits
abbrev pub watch_trace : Network → Network → List Entry → List TraceItem
watch_trace net monitor journal = settled (heard net monitor journal)
