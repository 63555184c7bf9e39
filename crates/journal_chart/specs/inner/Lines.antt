-- The parts of a chart's lines, as they are put together.
use Rattle.std.specs.Prelude.{ℕ, List, [], ◌++◌, slice_get, option_map, unwrap_or, codes}
use Rattle.polis_base.specs.Lines.{line}
use Rattle.transition_table.specs.declared.machine.Machine.{Machine}
use Rattle.transition_table.specs.declared.network.Network.{Network}
use Rattle.transition_table.specs.declared.snapshot.Outcome.{Outcome}
use Rattle.transition_table.specs.declared.snapshot.Snapshot.{Snapshot}
use Rattle.journals.specs.declared.entry.Entry.{Entry}
use Rattle.journals.specs.declared.entry.Entry.TheVariants.{Dep, Rea}
use Rattle.journal_text.specs.Texts.{space, spaced}
use Rattle.journal_chart.specs.Labels.{joined, label}
use Rattle.journal_chart.specs.Notes.{notes_text, reaction_notes}
use Rattle.journal_chart.specs.Pictures.{centred, trimmed}
use Rattle.journal_chart.specs.Chart.{place_text}
use Rattle.journal_chart.specs.inner.Marks.{lost_notes}

-- a line of the entry at place p with this picture and these notes
abbrev pub line_of : ℕ → List ℕ → List (List ℕ) → List ℕ
line_of p picture notes =
    line (place_text p ++ codes " " ++ trimmed picture ++ notes_text notes)

-- these texts in brackets
abbrev pub bracketed : List (List ℕ) → List ℕ
bracketed texts = codes "[" ++ joined space texts ++ codes "]"

-- a note of a word and these texts
abbrev pub word_note : List ℕ → List (List ℕ) → List ℕ
word_note word texts = word ++ spaced texts

-- the line of a reaction at place p with its label on an axis of this picture
abbrev pub reaction_line : Network → ℕ → Machine → Snapshot → Outcome → List ℕ → ℕ → ℕ → List ℕ
reaction_line net width machine s o bare axis p =
    line_of p (centred bare axis (label net width machine s o))
    (reaction_notes net width machine s o)

-- the notes of an entry that overwrites what has this mark
abbrev pub notes_with : Network → ℕ → ℕ → Entry → List (List ℕ)
notes_with net width mark (Dep from to event code) = lost_notes mark
notes_with net width mark (Rea m s o) =
    unwrap_or
    (option_map (λ machine. reaction_notes net width machine s o) (slice_get net.machines m)) []
