-- How far a journal is legal.
use Rattle.std.specs.Prelude.{◌↔◌, ℕ, ◌+◌, ◌<◌, List, length, take, IsTrue}
use Rattle.transition_table.specs.declared.network.Network.{Network}
use Rattle.journals.specs.declared.entry.Entry.{Entry}
use Rattle.journals.specs.declared.entry.TraceItem.{TraceItem}
use Rattle.journals.specs.Legality.{Legal, Complete}
use Rattle.journals.specs.Stamps.{Rising}
use Rattle.net_core.specs.Prefixes.{IsReason}
use Rattle.journal_replay.specs.declared.judge.Verdict.{Verdict}
use Rattle.journal_replay.specs.declared.judge.Verdict.TheVariants.{Legal as IsLegal, Illegal}

-- The journal is legal, and complete or not; or k is the least place up to which it isn't legal,
-- and this is the cause against the entry there.
abbrev pub IsVerdict : Network → List TraceItem → List Entry → Verdict → Type 0
IsVerdict net trace journal (IsLegal complete) =
    Legal net trace journal × (IsTrue complete ↔ Complete net trace journal)
IsVerdict net trace journal (Illegal k why) =
    (k < length journal)
    × Legal net trace (take k journal)
    × (¬ Legal net trace (take (k + 1) journal))
    × IsReason net trace journal k why

-- the journal is legal and its stamps rise
abbrev pub IsLegalAndRises : Network → List TraceItem → List Entry → List ℕ → Type 0
IsLegalAndRises net trace journal stamps = Legal net trace journal × Rising net journal stamps

-- the same of a journal with its stamps; there is no cause against an entry that may follow and
-- whose stamp doesn't rise
abbrev pub IsStampedVerdict : Network → List TraceItem → List Entry → List ℕ → Verdict → Type 0
IsStampedVerdict net trace journal stamps (IsLegal complete) =
    IsLegalAndRises net trace journal stamps × (IsTrue complete ↔ Complete net trace journal)
IsStampedVerdict net trace journal stamps (Illegal k why) =
    (k < length journal)
    × IsLegalAndRises net trace (take k journal) (take k stamps)
    × (¬ IsLegalAndRises net trace (take (k + 1) journal) (take (k + 1) stamps))
    × IsReason net trace journal k why
