-- The line of what a monitor says.
use Rattle.std.specs.Prelude.{ℕ, List, ◌++◌, codes, decimal, IsTrue, ⊤}
use Rattle.polis_base.specs.Lines.{line}
use Rattle.transition_table.specs.declared.network.Network.{Network}
use Rattle.journals.specs.Journals.{is_event_code}
use Rattle.journal_text.specs.Texts.{event_item}
use Rattle.run_watch.specs.declared.answer.Complaint.{Complaint}
use Rattle.run_watch.specs.declared.answer.Watched.{Watched}
use Rattle.run_watch.specs.declared.answer.Watched.TheVariants.{Held, Unfinished, Found}

-- a complaint is an event of the monitor, with a code of it
abbrev pub IsShown : Network → Watched → Type 0
IsShown monitor Held = ⊤
IsShown monitor Unfinished = ⊤
IsShown monitor (Found c) = IsTrue (is_event_code monitor c.event c.code)

-- `found K : E`, K being the place
abbrev pub complaint_line : Network → Complaint → List ℕ
complaint_line monitor c =
    line
    (codes "found " ++ decimal c.place ++ codes " : " ++ event_item monitor (c.event, c.code))

abbrev pub watched_line : Network → Watched → List ℕ
watched_line monitor Held = line (codes "held")
watched_line monitor Unfinished = line (codes "unfinished")
watched_line monitor (Found c) = complaint_line monitor c
