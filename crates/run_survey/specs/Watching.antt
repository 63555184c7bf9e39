-- What a monitor says of many runs.
use Rattle.std.specs.Prelude.{◌≡◌, ℕ, ◌+◌, Bool, is_some, List, count_by, filter_map, Option, Some, None, option_map, IsSomeAnd}
use Rattle.std.specs.List.{position_or_len}
use Rattle.polis_base.specs.Lists.{head_of}
use Rattle.transition_table.specs.declared.network.Network.{Network}
use Rattle.journals.specs.declared.entry.Entry.{Entry}
use Rattle.run_watch.specs.Watches.{IsAnswer}
use Rattle.run_watch.specs.WatchLines.{IsShown}
use Rattle.run_watch.specs.declared.answer.Complaint.{Complaint}
use Rattle.run_watch.specs.declared.answer.Watched.{Watched}
use Rattle.run_watch.specs.declared.answer.Watched.TheVariants.{Held, Unfinished, Found}
use Rattle.run_survey.specs.declared.ending.Ending.{Ending}
use Rattle.run_survey.specs.declared.ending.Ending.TheVariants.{Found as EndsFound, Unfinished as EndsUnfinished, Held as EndsHeld}
use Rattle.run_survey.specs.declared.told.FoundRuns.{FoundRuns}
use Rattle.run_survey.specs.declared.told.Others.{Others}
use Rattle.run_survey.specs.declared.told.Survey.{Survey}

-- ---- one run

-- what is said of a journal of the network: by a monitor its answer, in which a complaint is an
-- event of it with a code of it; without one nothing
abbrev pub IsSaid : Network → Option Network → List Entry → Option Watched → Type 0
IsSaid net None journal said = said ≡ None
IsSaid net (Some monitor) journal said =
    IsSomeAnd said (λ answer. IsAnswer net monitor journal answer × IsShown monitor answer)

-- the complaint, if there is one
abbrev pub complaint_in : Option Watched → Option Complaint
complaint_in None = None
complaint_in (Some Held) = None
complaint_in (Some Unfinished) = None
complaint_in (Some (Found c)) = Some c

-- whether the monitor is left unfinished
abbrev pub unfinished_in : Option Watched → Option (Unit {0})
unfinished_in None = None
unfinished_in (Some Held) = None
unfinished_in (Some Unfinished) = Some tt
unfinished_in (Some (Found c)) = None

-- ---- many runs

-- of things of runs, the first of which has this seed: how many pass the test, and the seed of the
-- first that does
abbrev pub those : {X : Type 0} → (X → Bool) → ℕ → List X → Others
those test first xs =
    record { count = count_by test xs; seed = first + position_or_len test xs }

-- those in which something is met, with what is met in the first of them, if there is one
abbrev pub met : {X Y : Type 0} → (X → Option Y) → ℕ → List X → Option (Others × Y)
met look first xs =
    option_map (λ y. (those (λ x. is_some (look x)) first xs, y)) (head_of (filter_map look xs))

abbrev pub as_found : Others × Complaint → FoundRuns
as_found p = record { count = p.0.count; seed = p.0.seed; complaint = p.1 }

-- the runs of which the monitor complains, with the complaint of the first
abbrev pub found_runs : ℕ → List (Option Watched) → Option FoundRuns
found_runs first said = option_map as_found (met complaint_in first said)

-- the runs that leave it unfinished
abbrev pub unfinished_runs : ℕ → List (Option Watched) → Option Others
unfinished_runs first said = option_map (λ p. p.0) (met unfinished_in first said)

-- ---- how it ends

abbrev pub ending_by : Option FoundRuns → Option Others → Ending
ending_by (Some found) unfinished = EndsFound
ending_by None (Some unfinished) = EndsUnfinished
ending_by None None = EndsHeld

-- the monitor complains of some run; else some run leaves it unfinished; else all hold
abbrev pub ending_of : Survey → Ending
ending_of s = ending_by s.found s.unfinished
