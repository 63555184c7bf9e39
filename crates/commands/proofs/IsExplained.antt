-- What explains that a command makes nothing, from what explains each load.
use Rattle.std.proofs.Common.{◌≡◌, ◌⊎◌, inl, inr, ℕ, true, false, List, Option, Result, Ok, Err, IfErr, refl, sym, subst, IsTrue}
use Rattle.polis_base.specs.declared.limits.TheConstants.{TEXT_MAX, LONG_FILE_MAX}
use Rattle.polis_base.specs.Host.{Files, WhereTold}
use Rattle.transition_table.specs.declared.network.Network.{Network}
use Rattle.journals.specs.declared.entry.TraceItem.{TraceItem}
use Rattle.polis_words.specs.declared.cause.Cause.{Cause}
use Rattle.polis_words.specs.declared.cause.Cause.TheVariants.{Illegal as Unlawful}
use Rattle.polis_words.specs.declared.cause.Failure.{Failure}
use Rattle.polis_words.specs.declared.cause.Failure.TheVariants as failures
use Rattle.polis_words.specs.declared.status.Status.TheVariants.{Illegal}
use Rattle.polis_words.specs.Lines.{cause_status}
use Rattle.polis_words.specs.Replay.{ReplayWords}
use Rattle.net_core.specs.Prefixes.{IsReason}
use Rattle.net_core.specs.declared.answer.Why.{Why}
use Rattle.journal_replay.specs.declared.judge.Verdict.TheVariants.{Illegal as IsIllegal}
use Rattle.input_files.specs.Details.{explains_in, explains_replay}
use Rattle.input_files.specs.Explanations.{ExplainsFile, ExplainsJournal}
use Rattle.input_files.specs.Inputs.{HoldsText, HoldsNet, InputsFail}
use Rattle.input_files.specs.JournalFiles.{JournalFails}
use Rattle.input_files.specs.Loads.{fails_unread}
use Rattle.input_files.specs.declared.load.Detail.{Detail}
use Rattle.input_files.specs.declared.load.Detail.TheVariants as details
use Rattle.commands.specs.Meanings.{Meaning}
use Rattle.input_files.specs.Failures.{is_failure, IfExplained, FileExplained, FilesExplained, NamesOneOf}
use Rattle.commands.specs.Judging.{FailsReplay}
use Rattle.commands.specs.declared.judging.ReplayFiles.{ReplayFiles}
use Rattle.commands.specs.inner.Explain.{entry_explained}
use Rattle.commands.specs.inner.Judging.{AreLoaded, HoldsBoth, IsFoundOf, IsIllegalUpTo, IsUnlawful}
use Rattle.commands.specs.Made.{JudgingExplained, IsMadeFailure}
use Rattle.commands.proofs.IsJudged.{illegal_fails, journal_fails}
use Rattle.commands.proofs.IsMade.{may_fail, may_judge}
use Rattle.input_files.proofs.Holds.{journal_held}
use Rattle.polis_base.proofs.WhereTold.{told_from}

-- where the network or the trace fails so does the replay
pub inputs_judged : (detail : Detail) (o : Option Files) (replay : ReplayWords)
    (failure : Failure) → FilesExplained o (λ files. InputsFail files replay.net replay.trace)
    (explains_in detail TEXT_MAX) failure
    → NamesOneOf replay.net replay.trace failure
    → JudgingExplained o (FailsReplay replay) (explains_replay detail replay) failure
inputs_judged detail o replay failures.NoMemory h named = tt
inputs_judged detail o replay (failures.File name cause more) (h, explains) named = (
  (
    told_from o (λ files. InputsFail files replay.net replay.trace name.now cause) _
        (λ files k. inl k) h.0,
    inl h.1,
  ),
  so detail explains,
)
  where
    so : (detail : Detail) → explains_in detail TEXT_MAX o name.now cause more
        → explains_replay detail replay o name.now cause more
    so details.Cause e = e
    so details.Explained e = inl (named, h.0, e)

-- a cause of a load or of a line isn't that of an illegal journal
line_explains : (o : Option Files) (net : Network) (trace : List TraceItem) (name more : List ℕ)
    (cause : Cause) → IsTrue (is_failure true (cause_status cause))
    → ExplainsFile LONG_FILE_MAX o name cause more
    → ExplainsJournal o net trace name cause more
line_explains o net trace name more (Unlawful k) s h = cc
line_explains o net trace name more other s h = h

-- and where the journal fails
pub journal_judged : (detail : Detail) (o : Option Files) (replay : ReplayWords) (net : Network)
    (trace : List TraceItem) (failure : Failure) → WhereTold o (HoldsBoth replay net trace)
    → WhereTold o (λ files. (other : Network) → HoldsNet files replay.net other → other ≡ net)
    → FileExplained replay.journal o (λ files cause. (items : List TraceItem)
    → JournalFails files net items replay.journal cause)
    (explains_in detail LONG_FILE_MAX) failure
    → JudgingExplained o (FailsReplay replay) (explains_replay detail replay) failure
journal_judged detail o replay net trace failures.NoMemory held one h = tt
journal_judged detail o replay net trace (failures.File name cause more) held one (h, explains) = (
  (journal_fails o replay net trace name.now cause h.0 held one h.1, inl h.2),
  so detail explains,
)
  where
    so : (detail : Detail) → explains_in detail LONG_FILE_MAX o name.now cause more
        → explains_replay detail replay o name.now cause more
    so details.Cause e = e
    so details.Explained e =
        inr (h.0, net, trace, held, line_explains o net trace name.now more cause h.2 e)

-- what is said of a journal that isn't legal
illegal_explained : (detail : Detail) (o : Option Files) (replay : ReplayWords)
    (loaded : ReplayFiles) (name more : List ℕ) (k : ℕ) (why : Option Why) → name ≡ replay.journal
    → AreLoaded replay o loaded
    → IsReason loaded.inputs.net loaded.inputs.trace loaded.file.read.journal k why
    → more ≡ entry_explained detail name loaded.file.text k why
    → explains_replay detail replay o name (Unlawful k) more
illegal_explained details.Cause o replay loaded name more k why same l reason is = is
illegal_explained details.Explained o replay loaded name more k why same l reason is =
    inr (
      same,
      loaded.inputs.net,
      loaded.inputs.trace,
      l.held,
      record {
        text = loaded.file.text;
        holds = subst (λ (file : List ℕ). WhereTold o (λ files. HoldsText files LONG_FILE_MAX file
            loaded.file.text)) (sym same) l.text;
        journal = loaded.file.read.journal;
        stamps = loaded.file.read.stamps;
        word = loaded.file.read.says_complete;
        read = l.read;
        why = why;
        reason = reason;
        more_is = is;
      },
    )

-- what is found and what is said of it are the failure
pub unlawful_is : (name : List ℕ) (loaded : ReplayFiles) (detail : Detail) (k : ℕ)
    (why : Option Why) (failure : Failure) → IsFoundOf loaded (IsIllegal k why)
    → IfExplained failure (IsIllegalUpTo name loaded.file.text detail k why)
    → IsUnlawful name loaded detail failure
unlawful_is name loaded detail k why failures.NoMemory found h = tt
unlawful_is name loaded detail k why (failures.File file cause more) found h =
    (k, why, found, h)

-- which is no failed load
pub unlawful_read : {X : Type 0} (name : List ℕ) (loaded : ReplayFiles) (detail : Detail)
    (result : Result X Failure) → IfErr result (IsUnlawful name loaded detail)
    → fails_unread result ≡ false
unlawful_read name loaded detail (Ok x) h = refl
unlawful_read name loaded detail (Err failures.NoMemory) h = refl
unlawful_read name loaded detail (Err (failures.File file cause more)) h =
    rw h.3.1 refl

-- and is why a replay fails, and what explains it
pub unlawful_judged : (detail : Detail) (o : Option Files) (replay : ReplayWords)
    (loaded : ReplayFiles) (failure : Failure) → AreLoaded replay o loaded
    → IsUnlawful replay.journal loaded detail failure
    → JudgingExplained o (FailsReplay replay) (explains_replay detail replay) failure
unlawful_judged detail o replay loaded failures.NoMemory l h = tt
unlawful_judged detail o replay loaded (failures.File name cause more) l
    (k, why, found, (same, is, explained)) =
    let net = loaded.inputs.net in
    let trace = loaded.inputs.trace in
    let read = loaded.file.read in
    subst (λ (c : Cause). (WhereTold o (λ files. FailsReplay replay files name.now c)
    × (IsTrue (is_failure true (cause_status c)) ⊎ (cause_status c ≡ Illegal)))
    × explains_replay detail replay o name.now c more) (sym is) (
      (
        illegal_fails o replay net trace read.journal read.stamps name.now k same l.held l.one
            (journal_held o net replay.journal loaded.file.text read.journal read.stamps
            read.says_complete l.text l.read)
            found.0,
        inr refl,
      ),
      illegal_explained detail o replay loaded name.now more k why same l found.1
          (rw same explained),
    )

-- ---- why a command makes nothing
pub files_explained : (m : Meaning) (o : Option Files) (failure : Failure) → m.reads ≡ true
    → FilesExplained o m.fails m.explains failure → IsMadeFailure m o failure
files_explained m o failures.NoMemory reads h = tt
files_explained m o (failures.File name cause more) reads (h, explains) =
    (h.0, may_fail m (cause_status cause) reads h.1, explains)

pub judging_explained : (m : Meaning) (o : Option Files) (failure : Failure) → m.reads ≡ true
    → IsTrue (m.ends Illegal) → JudgingExplained o m.fails m.explains failure
    → IsMadeFailure m o failure
judging_explained m o failures.NoMemory reads ends h = tt
judging_explained m o (failures.File name cause more) reads ends (h, explains) =
    (h.0, may_judge m (cause_status cause) reads ends h.1, explains)
