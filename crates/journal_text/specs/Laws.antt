-- What is printed reads back, what reads was printed, a text has one journal, and where a prefix of
-- a printed text is at fault.
use Rattle.std.specs.Prelude.{◌≡◌, ℕ, ◌≤◌, cond, Bool, ◌==◌, List, [], ◌∷◌, ◌++◌, length, Some, None, Ok, Err, IsTrue}
use Rattle.polis_base.specs.declared.limits.TheConstants.{ENTRIES_MAX}
use Rattle.polis_base.specs.Lists.{last_of}
use Rattle.transition_table.specs.declared.network.Network.{Network}
use Rattle.journals.specs.declared.entry.Entry.{Entry}
use Rattle.journals.specs.Journals.{IsJournal}
use Rattle.journal_text.specs.Texts.{journal_text, stamped_journal_text, AreStamps}
use Rattle.journal_text.specs.Forms.{Text, Texts, lines_of}
use Rattle.polis_base.specs.Pieces.{is_nonempty}
use Rattle.journal_text.specs.Reading.{read_of}
use Rattle.journal_text.specs.Holding.{names_hold}
use Rattle.journal_text.specs.declared.fault.JournalKind.TheVariants.{Header, Shape, End}
use Rattle.journal_text.specs.declared.fault.JournalFault.{JournalFault}
use Rattle.journal_text.specs.declared.fault.JournalFault.TheVariants.{Line}

-- a network as its types keep it, and a journal of at most 60,000 entries that fit it
abbrev pub Prints : Network → List Entry → Type 0
Prints net journal = IsTrue (names_hold net) × IsJournal net journal × (length journal ≤ ENTRIES_MAX)

-- what is printed in version 1 reads back, with no stamps
abbrev pub ReadsBack : Type 0
ReadsBack = (net : Network) (journal : List Entry) (complete : Bool) → Prints net journal
    → read_of net (journal_text net journal complete) ≡ Ok (journal, None, complete)

-- what is printed in version 2 reads back, with its stamps
abbrev pub StampedReadsBack : Type 0
StampedReadsBack = (net : Network) (journal : List Entry) (stamps : List ℕ) (complete : Bool)
    → Prints net journal → AreStamps journal stamps
    → read_of net (stamped_journal_text net journal stamps complete)
    ≡ Ok (journal, Some stamps, complete)

-- what reads with no stamps was printed in version 1
abbrev pub ReadIsPrinted : Type 0
ReadIsPrinted = (net : Network) (text : Text) (journal : List Entry) (complete : Bool)
    → read_of net text ≡ Ok (journal, None, complete)
    → (text ≡ journal_text net journal complete) × IsJournal net journal × (length journal ≤ ENTRIES_MAX)

-- what reads with stamps was printed in version 2
abbrev pub StampedReadIsPrinted : Type 0
StampedReadIsPrinted =
    (net : Network) (text : Text) (journal : List Entry) (stamps : List ℕ) (complete : Bool)
    → read_of net text ≡ Ok (journal, Some stamps, complete)
    → (text ≡ stamped_journal_text net journal stamps complete) × IsJournal net journal
    × (length journal ≤ ENTRIES_MAX) × AreStamps journal stamps

-- a text of version 1 has one journal and one last word
abbrev pub OneJournal : Type 0
OneJournal = (net : Network) (j k : List Entry) (a b : Bool) → Prints net j → Prints net k
    → journal_text net j a ≡ journal_text net k b → (j ≡ k) × (a ≡ b)

-- a text of version 2 has one journal, one list of stamps and one last word
abbrev pub OneStampedJournal : Type 0
OneStampedJournal = (net : Network) (j k : List Entry) (s t : List ℕ) (a b : Bool) → Prints net j
    → Prints net k → AreStamps j s → AreStamps k t
    → stamped_journal_text net j s a ≡ stamped_journal_text net k t b → (j ≡ k) × (s ≡ t) × (a ≡ b)

-- no text is of both versions
abbrev pub OneVersion : Type 0
OneVersion = (net : Network) (j k : List Entry) (t : List ℕ) (a b : Bool) → Prints net j
    → Prints net k → AreStamps k t
    → journal_text net j a ≡ stamped_journal_text net k t b → ⊥

-- The fault of a prefix, by its whole lines and what stands after the last LF: where the first line
-- isn't whole, the header; else the line after the whole ones, `end` where nothing follows them and
-- `shape` where a part of a line does.
abbrev pub prefix_fault : Texts → JournalFault
prefix_fault lines =
    Line (length lines)
    (cond (length lines == 1) Header (cond (is_nonempty (last_of [] lines)) Shape End))

-- a prefix of a printed text, but the whole, doesn't read
abbrev pub PrefixFaults : Type 0
PrefixFaults = (net : Network) (journal : List Entry) (complete : Bool) (prefix : Text) (c : ℕ)
    (rest : Text) → Prints net journal
    → journal_text net journal complete ≡ prefix ++ c ∷ rest
    → read_of net prefix ≡ Err (prefix_fault (lines_of prefix))

abbrev pub StampedPrefixFaults : Type 0
StampedPrefixFaults =
    (net : Network) (journal : List Entry) (stamps : List ℕ) (complete : Bool) (prefix : Text)
    (c : ℕ) (rest : Text) → Prints net journal → AreStamps journal stamps
    → stamped_journal_text net journal stamps complete ≡ prefix ++ c ∷ rest
    → read_of net prefix ≡ Err (prefix_fault (lines_of prefix))

-- Printing and reading.
pub record TextLaws : Type 0 where
  pub reads_back : ReadsBack
  pub stamped_reads_back : StampedReadsBack
  pub read_is_printed : ReadIsPrinted
  pub stamped_read_is_printed : StampedReadIsPrinted
  pub one_journal : OneJournal
  pub one_stamped_journal : OneStampedJournal
  pub one_version : OneVersion
  pub prefix_faults : PrefixFaults
  pub stamped_prefix_faults : StampedPrefixFaults
