-- What the reader answers, by the texts that are printed.
use Rattle.std.specs.Prelude.{◌≡◌, ◌⊎◌, ◌≤◌, length, Some, None, Result, Ok, Err, IfSome}
use Rattle.polis_base.specs.declared.limits.TheConstants.{ENTRIES_MAX}
use Rattle.transition_table.specs.declared.network.Network.{Network}
use Rattle.journals.specs.Journals.{IsJournal}
use Rattle.journal_text.specs.Texts.{journal_text, stamped_journal_text, AreStamps}
use Rattle.journal_text.specs.Forms.{Text}
use Rattle.journal_text.specs.Reading.{ReadText}
use Rattle.journal_text.specs.declared.read.ReadJournal.{ReadJournal}
use Rattle.journal_text.specs.declared.fault.JournalFault.{JournalFault}
use Rattle.journal_text.specs.declared.fault.JournalFault.TheVariants.{NoMemory}

-- the printed text: of version 1 where there are no stamps, and else of version 2
abbrev pub text_of : Network → ReadText → Text
text_of net (journal, None, complete) = journal_text net journal complete
text_of net (journal, Some stamps, complete) = stamped_journal_text net journal stamps complete

-- at most 60,000 entries that fit the network, and with stamps one an entry
abbrev pub IsPrintable : Network → ReadText → Type 0
IsPrintable net (journal, stamps, complete) =
    IsJournal net journal × (length journal ≤ ENTRIES_MAX) × IfSome stamps (AreStamps journal)

-- just this was read, unless memory ran out
abbrev pub Gives : Result ReadJournal JournalFault → ReadText → Type 0
Gives (Ok r) read = (r.journal, r.stamps, r.says_complete) ≡ read
Gives (Err fault) read = fault ≡ NoMemory

-- just this fault was found, unless memory ran out
abbrev pub Refuses : Result ReadJournal JournalFault → JournalFault → Type 0
Refuses result fault = (result ≡ Err NoMemory) ⊎ (result ≡ Err fault)
