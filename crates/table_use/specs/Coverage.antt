-- What of its tables a journal used, which events it consumed without effect, and where it jammed.
use Rattle.std.specs.Prelude.{◌≡◌, ℕ, Bool, false, not, ◌&&◌, ◌==◌, List, map, count_by, length, slice_get, Some}
use Rattle.std.specs.List.{enumerate_from}
use Rattle.polis_base.specs.Lists.{upto, head_of, places_where}
use Rattle.transition_table.specs.declared.machine.Machine.{Machine}
use Rattle.transition_table.specs.declared.network.Network.{Network}
use Rattle.outcome_table.specs.Outcomes.{AreResultsOf}
use Rattle.outcome_table.specs.declared.table.Results.{Results}
use Rattle.journals.specs.declared.entry.Entry.{Entry}
use Rattle.journals.specs.declared.entry.Entry.TheVariants.{Dep, Rea}
use Rattle.journals.specs.Journals.{is_firing_of}
use Rattle.journals.specs.Seen.{is_present}
use Rattle.table_use.specs.Use.{enables, is_jammed, is_unused}
use Rattle.table_use.specs.declared.used.MachineUse.{MachineUse}
use Rattle.table_use.specs.declared.used.InputUse.{InputUse}
use Rattle.table_use.specs.declared.tally.Tally.{Tally}

-- how many entries pass, and the place of the first that does
abbrev pub tally : (Entry → Bool) → List Entry → Tally
tally test journal =
    record { count = count_by test journal; first = head_of (places_where test journal) }

-- a reaction of m that doesn't fire
abbrev pub is_idle_of : ℕ → Entry → Bool
is_idle_of m (Dep from to event code) = false
is_idle_of m (Rea k s o) = k == m && not o.fires

-- a reaction of m whose snapshot passes
abbrev pub reacts_on : ℕ → (List ℕ → Bool) → Entry → Bool
reacts_on m test (Dep from to event code) = false
reacts_on m test (Rea k s o) = k == m && test s.codes

-- a firing of m whose snapshot passes
abbrev pub fires_on : ℕ → (List ℕ → Bool) → Entry → Bool
fires_on m test (Dep from to event code) = false
fires_on m test (Rea k s o) = k == m && o.fires && test s.codes

-- the firings of m on which the row is enabled
abbrev pub taken_by : Machine → ℕ → List Entry → ℕ → Tally
taken_by machine m journal r = tally (fires_on m (enables machine r)) journal

-- the firings of m that have the input present, and those on which it is unused
abbrev pub input_use : Machine → ℕ → List Entry → ℕ → InputUse
input_use machine m journal i =
    record {
      read = tally (fires_on m (is_present i)) journal;
      unused = tally (fires_on m (is_unused machine i)) journal;
    }

-- of the machine of number m
abbrev pub coverage_of : List Entry → ℕ × Machine → MachineUse
coverage_of journal (m, machine) =
    record {
      fired = tally (is_firing_of m) journal;
      idle = tally (is_idle_of m) journal;
      jammed = tally (reacts_on m (is_jammed machine)) journal;
      rows = map (taken_by machine m journal) (upto (length machine.rows));
      inputs = map (input_use machine m journal) (upto (length machine.inputs));
    }

-- one for each machine, by number
abbrev pub coverages : Network → List Entry → List MachineUse
coverages net journal = map (coverage_of journal) (enumerate_from 0 net.machines)

-- what each machine does on its snapshots, by number
pub record AreTablesOf (net : Network) (tables : List Results) : Type 0 where
  pub long : length tables ≡ length net.machines
  pub each : (k : ℕ) (m : Machine) (r : Results) → slice_get net.machines k ≡ Some m
      → slice_get tables k ≡ Some r → AreResultsOf m r
