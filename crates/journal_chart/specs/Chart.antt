-- A chart of messages: the entries of a journal from one place up to another, a line an entry and a
-- column a party.
use Rattle.std.specs.Prelude.{ℕ, ◌-◌, List, ◌++◌, length, take, codes, decimal}
use Rattle.polis_base.specs.Lines.{line}
use Rattle.polis_base.specs.Lists.{numbered}
use Rattle.transition_table.specs.declared.network.Network.{Network}
use Rattle.journals.specs.declared.entry.Entry.{Entry}
use Rattle.journal_chart.specs.Columns.{party_names, shown, width_of}
use Rattle.journal_chart.specs.Labels.{picture}
use Rattle.journal_chart.specs.Notes.{notes, notes_text}
use Rattle.journal_chart.specs.Pictures.{cells, spaces, trimmed}

-- the line of the parties' names
abbrev pub head_line : Network → List Entry → List ℕ
head_line net entries =
    line (spaces 7 ++ trimmed (cells (width_of net entries) (party_names net entries)))

-- a number, right-aligned in six places
abbrev pub place_text : ℕ → List ℕ
place_text p = spaces (6 - length (decimal p)) ++ decimal p

-- the line of the entry at place p of the journal, which is one of those that are shown
abbrev pub chart_line : Network → List Entry → List Entry → ℕ → Entry → List ℕ
chart_line net journal entries p entry =
    line
    (place_text p ++ codes " " ++ trimmed (picture net entries entry)
    ++ notes_text (notes net (width_of net entries) (take p journal) entry))

-- the entries p with from <= p < to
abbrev pub chart_text : Network → List Entry → ℕ → ℕ → List ℕ
chart_text net journal from to =
    let entries = shown journal from to in
    head_line net entries ++ numbered (chart_line net journal entries) from entries
