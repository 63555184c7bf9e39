-- What a monitor says of a journal.
use Rattle.std.specs.Prelude.{◌≡◌, ℕ, suc, List, [], map, filter, filter_map, length, take, slice_get, Option, Some, None}
use Rattle.polis_base.specs.declared.limits.TheConstants.{ENTRIES_MAX}
use Rattle.polis_base.specs.Lists.{head_of, last_of}
use Rattle.transition_table.specs.declared.decl.Party.TheVariants.{Env, Machine as Sender}
use Rattle.transition_table.specs.declared.network.Network.{Network}
use Rattle.journals.specs.declared.entry.Entry.{Entry}
use Rattle.journals.specs.declared.entry.Entry.TheVariants.{Dep, Rea}
use Rattle.journals.specs.Journals.{delivered, reads}
use Rattle.journals.specs.Legality.{Complete}
use Rattle.journals.specs.Outputs.{outputs}
use Rattle.journals.specs.Schedules.{IsSchedule}
use Rattle.run_watch.specs.Emissions.{placed_outputs}
use Rattle.run_watch.specs.Monitors.{heard, settled}
use Rattle.run_watch.specs.declared.answer.Watched.{Watched}
use Rattle.run_watch.specs.declared.answer.Watched.TheVariants.{Held, Unfinished, Found}
use Rattle.run_watch.specs.declared.emission.Emission.{Emission}

-- ---- the place of a complaint

-- the machine to which the environment delivers
abbrev pub receiver : Entry → Option ℕ
receiver (Dep Env m e code) = Some m
receiver (Dep (Sender s) m e code) = None
receiver (Rea m s o) = None

-- the last one to which it does
abbrev pub last_receiver : List Entry → Option ℕ
last_receiver entries = last_of None (map Some (filter_map receiver entries))

-- for each item that machine m of the monitor reads, the place of the entry whose emission it is
abbrev pub sources : Network → List Emission → ℕ → List ℕ
sources monitor heard m = map (λ x. x.place) (filter (λ x. reads monitor m x.event) heard)

-- the last delivery of the environment among these entries of the monitor's journal brings the
-- emission of the entry at this place of the watched one
pub record ToldAt (monitor : Network) (heard : List Emission) (entries : List Entry) (place : ℕ)
    : Type 0 where
  pub machine : ℕ
  pub number : ℕ
  pub last : last_receiver entries ≡ Some machine
  pub counted : length (delivered Env machine entries) ≡ suc number
  pub source : slice_get (sources monitor heard machine) number ≡ Some place

-- so does the last one before the firing with the first output of the monitor
pub record StandsAt (monitor : Network) (heard : List Emission) (watch : List Entry) (place : ℕ)
    : Type 0 where
  pub first : Emission
  pub is : head_of (placed_outputs monitor watch) ≡ Some first
  pub told : ToldAt monitor heard (take first.place watch) place

-- ---- answers

-- what the monitor says, by what it hears and by its journal on the trace of that
abbrev pub Says : Network → List Emission → List Entry → Watched → Type 0
Says monitor heard watch Held =
    (outputs monitor watch ≡ []) × Complete monitor (settled heard) watch
Says monitor heard watch Unfinished =
    (outputs monitor watch ≡ []) × (Complete monitor (settled heard) watch → ⊥)
Says monitor heard watch (Found c) =
    (head_of (outputs monitor watch) ≡ Some (c.event, c.code))
    × StandsAt monitor heard watch c.place

-- what it says where it hears these: its journal is the scheduler's, of at most so many entries
pub record IsAnswerTo (monitor : Network) (heard : List Emission) (limit : ℕ) (answer : Watched) :
    Type 0 where
  pub watch : List Entry
  pub scheduled : IsSchedule monitor (settled heard) limit watch
  pub says : Says monitor heard watch answer

-- what it says of a journal of the network
abbrev pub IsAnswer : Network → Network → List Entry → Watched → Type 0
IsAnswer net monitor journal answer =
    IsAnswerTo monitor (heard net monitor journal) ENTRIES_MAX answer
