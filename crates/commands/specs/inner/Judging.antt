-- The files of a replay as they were read, and what is found of their journal.
use Rattle.std.specs.Prelude.{◌≡◌, ◌↔◌, ℕ, ◌≤◌, List, length, Option, Ok, IfSome, IsTrue}
use Rattle.polis_base.specs.declared.limits.TheConstants.{ENTRIES_MAX, LONG_FILE_MAX}
use Rattle.polis_base.specs.Host.{Files, WhereTold}
use Rattle.transition_table.specs.declared.network.Network.{Network}
use Rattle.transition_table.specs.Transitions.{AreDeterministic}
use Rattle.journals.specs.declared.entry.Entry.{Entry}
use Rattle.journals.specs.declared.entry.TraceItem.{TraceItem}
use Rattle.journals.specs.Journals.{IsTrace, IsJournal}
use Rattle.journals.specs.Legality.{Complete}
use Rattle.journal_text.specs.Reading.{read_of}
use Rattle.journal_text.specs.Texts.{AreStamps}
use Rattle.net_core.specs.Prefixes.{IsReason}
use Rattle.net_core.specs.declared.answer.Why.{Why}
use Rattle.journal_replay.specs.declared.judge.Verdict.{Verdict}
use Rattle.journal_replay.specs.declared.judge.Verdict.TheVariants.{Legal as IsLegal, Illegal as IsIllegal}
use Rattle.polis_words.specs.declared.cause.Cause.{Cause}
use Rattle.polis_words.specs.declared.cause.Cause.TheVariants.{Illegal}
use Rattle.polis_words.specs.declared.cause.Failure.{Failure}
use Rattle.polis_words.specs.Replay.{ReplayWords}
use Rattle.input_files.specs.declared.load.Detail.{Detail}
use Rattle.input_files.specs.Failures.{IfExplained}
use Rattle.input_files.specs.Inputs.{HoldsText, HoldsNet, HoldsTrace}
use Rattle.input_files.specs.JournalFiles.{LegalAndRising, IsFirstIllegal}
use Rattle.commands.specs.declared.judging.Judged.{Judged}
use Rattle.commands.specs.declared.judging.ReplayFiles.{ReplayFiles}
use Rattle.commands.specs.inner.Explain.{entry_explained}

-- it is legal and rising, and complete or not; or the first entry up to which it isn't, and the
-- cause against that entry
abbrev pub IsFound : Network → List TraceItem → List Entry → Option (List ℕ) → Verdict → Type 0
IsFound net trace journal stamps (IsLegal complete) =
    LegalAndRising net trace journal stamps × (IsTrue complete ↔ Complete net trace journal)
IsFound net trace journal stamps (IsIllegal k why) =
    IsFirstIllegal net trace journal stamps k × IsReason net trace journal k why

-- the trace and the journal are of the network, as tables are that may be compiled
pub record FitTogether (loaded : ReplayFiles) : Type 0 where
  pub trace : IsTrace loaded.inputs.net loaded.inputs.trace
  pub deterministic : AreDeterministic loaded.inputs.net
  pub journal : IsJournal loaded.inputs.net loaded.file.read.journal
  pub few : length loaded.file.read.journal ≤ ENTRIES_MAX
  pub stamps : IfSome loaded.file.read.stamps (AreStamps loaded.file.read.journal)

-- what a network and a trace are held under
abbrev pub HoldsBoth : ReplayWords → Network → List TraceItem → Files → Type 0
HoldsBoth replay net trace files =
    HoldsNet files replay.net net × HoldsTrace files replay.trace net trace

-- the files hold these, no other network is held under its name, and the journal's text says what
-- was read of it
pub record AreLoaded (replay : ReplayWords) (told : Option Files) (loaded : ReplayFiles) :
    Type 0 where
  pub held : WhereTold told (HoldsBoth replay loaded.inputs.net loaded.inputs.trace)
  pub one : WhereTold told (λ files. (other : Network) → HoldsNet files replay.net other
      → other ≡ loaded.inputs.net)
  pub text : WhereTold told (λ files. HoldsText files LONG_FILE_MAX replay.journal loaded.file.text)
  pub read : read_of loaded.inputs.net loaded.file.text
      ≡ Ok (loaded.file.read.journal, loaded.file.read.stamps, loaded.file.read.says_complete)
  pub fit : FitTogether loaded

-- this is found of the journal that was read
abbrev pub IsFoundOf : ReplayFiles → Verdict → Type 0
IsFoundOf loaded verdict =
    IsFound loaded.inputs.net loaded.inputs.trace loaded.file.read.journal loaded.file.read.stamps
    verdict

-- the journal that was read is legal and rising, and complete or not
pub record IsJudgmentOf (loaded : ReplayFiles) (judged : Judged) : Type 0 where
  pub inputs : judged.inputs ≡ loaded.inputs
  pub read : judged.read ≡ loaded.file.read
  pub found : IsFoundOf loaded (IsLegal judged.complete)

-- the file is the one of this name, the cause is that its journal isn't legal up to the k-th entry,
-- and this is what is said of that entry
abbrev pub IsIllegalUpTo : List ℕ → List ℕ → Detail → ℕ → Option Why → List ℕ → Cause → List ℕ
    → Type 0
IsIllegalUpTo name text detail k why file cause more =
    (file ≡ name) × (cause ≡ Illegal k) × (more ≡ entry_explained detail name text k why)

-- the same for what is found of the journal that was read
abbrev pub IsUnlawful : List ℕ → ReplayFiles → Detail → Failure → Type 0
IsUnlawful name loaded detail failure = IfExplained failure (λ file cause more.
    (k : ℕ) × (why : Option Why) × IsFoundOf loaded (IsIllegal k why)
    × IsIllegalUpTo name loaded.file.text detail k why file cause more)
