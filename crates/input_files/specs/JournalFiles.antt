-- What a journal file holds, and why it isn't read or its journal isn't legal.
use Rattle.std.specs.Prelude.{◌≡◌, ◌⊎◌, ℕ, ◌+◌, ◌<◌, Bool, List, length, take, Option, Some, None, option_map, Ok, Err}
use Rattle.polis_base.specs.declared.limits.TheConstants.{LONG_FILE_MAX}
use Rattle.polis_base.specs.Host.{Files}
use Rattle.transition_table.specs.declared.network.Network.{Network}
use Rattle.journals.specs.declared.entry.Entry.{Entry}
use Rattle.journals.specs.declared.entry.TraceItem.{TraceItem}
use Rattle.journals.specs.Legality.{Legal}
use Rattle.journals.specs.Stamps.{Rising}
use Rattle.journal_text.specs.declared.fault.JournalFault.TheVariants.{Line as FaultyLine}
use Rattle.journal_text.specs.Reading.{read_of}
use Rattle.polis_words.specs.declared.cause.Cause.{Cause}
use Rattle.polis_words.specs.declared.cause.Cause.TheVariants.{JournalLine, Illegal}
use Rattle.input_files.specs.Inputs.{HoldsText, LoadFails}

-- a journal text of the network is held under the name, within its limit, and read; whether its
-- last word is `complete` isn't judged
pub record HoldsJournal (files : Files) (name : List ℕ) (net : Network) (journal : List Entry)
    (stamps : Option (List ℕ)) : Type 0 where
  pub text : List ℕ
  pub holds : HoldsText files LONG_FILE_MAX name text
  pub word : Bool
  pub read : read_of net text ≡ Ok (journal, stamps, word)

-- the journal is legal, and its stamps are rising, where it has any
abbrev pub LegalAndRising : Network → List TraceItem → List Entry → Option (List ℕ) → Type 0
LegalAndRising net trace journal None = Legal net trace journal
LegalAndRising net trace journal (Some stamps) =
    Legal net trace journal × Rising net journal stamps

-- the entries before this one are legal and rising, and those up to it aren't
abbrev pub IsFirstIllegal : Network → List TraceItem → List Entry → Option (List ℕ) → ℕ → Type 0
IsFirstIllegal net trace journal stamps k =
    (k < length journal)
    × LegalAndRising net trace (take k journal) (option_map (take k) stamps)
    × (¬ LegalAndRising net trace (take (k + 1) journal) (option_map (take (k + 1)) stamps))

-- What a journal text of the network says where this is why it isn't read, or where this is the
-- first entry of its journal up to which it isn't legal on the trace or its stamps aren't rising.
abbrev pub IsJournalFault : Network → List TraceItem → List ℕ → Cause → Type 0
IsJournalFault net trace text (JournalLine line kind) =
    read_of net text ≡ Err (FaultyLine line kind)
IsJournalFault net trace text (Illegal k) =
    (journal : List Entry) × (stamps : Option (List ℕ)) × (word : Bool)
    × (read_of net text ≡ Ok (journal, stamps, word)) × IsFirstIllegal net trace journal stamps k
IsJournalFault net trace text other = ⊥

-- why the journal text of this name isn't loaded, isn't read as one of the network, or isn't legal
-- on the trace
abbrev pub JournalFails : Files → Network → List TraceItem → List ℕ → Cause → Type 0
JournalFails files net trace name cause =
    LoadFails files LONG_FILE_MAX name cause
    ⊎ ((text : List ℕ) × HoldsText files LONG_FILE_MAX name text
    × IsJournalFault net trace text cause)
