-- Journals that are judged.
use Rattle.std.proofs.Common.{◌≡◌, ◌≤◌, inr, ℕ, Bool, true, suc, List, ◌∷◌, ◌++◌, length, Option, Some, None, Ok, refl, sym, ap, subst, []}
use Rattle.std.specs.List.{list_all}
use Rattle.polis_base.specs.declared.limits.TheConstants.{ENTRIES_MAX}
use Rattle.polis_base.specs.Host.{Files, bytes_at, WhereTold}
use Rattle.transition_table.specs.declared.network.Network.{Network}
use Rattle.transition_table.specs.Transitions.{AreDeterministic}
use Rattle.journals.specs.declared.entry.Entry.{Entry}
use Rattle.journals.specs.declared.entry.TraceItem.{TraceItem}
use Rattle.journals.specs.declared.stamped.Stamped.{Stamped}
use Rattle.journals.specs.Logs.{stamped}
use Rattle.journals.specs.Legality.{Legal}
use Rattle.journals.specs.Stamps.{Rising, rises_after}
use Rattle.journal_text.specs.Texts.{is_stamp, AreStamps}
use Rattle.journal_replay.specs.declared.judge.Verdict.TheVariants.{Legal as IsLegal}
use Rattle.trace_text.specs.Traces.{trace_of}
use Rattle.polis_words.specs.declared.cause.Cause.{Cause}
use Rattle.polis_words.specs.declared.cause.Cause.TheVariants.{Illegal as Unlawful}
use Rattle.polis_words.specs.Replay.{ReplayWords}
use Rattle.input_files.specs.Inputs.{HoldsNet, HoldsTrace}
use Rattle.input_files.specs.JournalFiles.{HoldsJournal, JournalFails, LegalAndRising, IsFirstIllegal}
use Rattle.commands.specs.Judging.{IsJudged, FailsReplay}
use Rattle.commands.specs.declared.judging.Judged.{Judged}
use Rattle.commands.specs.declared.judging.ReplayFiles.{ReplayFiles}
use Rattle.commands.specs.inner.Judging.{AreLoaded, FitTogether, HoldsBoth, IsFound, IsJudgmentOf}
use Rattle.polis_base.proofs.WhereTold.{told_both}
use Rattle.input_files.proofs.Holds.{journal_held, one_text}
use Rattle.polis_base.proofs.Bools.{and_first, and_second}

-- rising stamps are stamps, one for each entry
stamps_rise : (net : Network) (before : List Stamped) (journal : List Entry) (ts : List ℕ)
    → rises_after net before journal ts ≡ true
    → (list_all is_stamp ts ≡ true) × (length ts ≡ length journal)
stamps_rise net before [] [] h = (refl, refl)
stamps_rise net before [] (t ∷ ts) h = cc
stamps_rise net before (entry ∷ journal) [] h = cc
stamps_rise net before (entry ∷ journal) (t ∷ ts) h =
    let rest = stamps_rise net (before ++ stamped t entry ∷ []) journal ts
    (and_second _ (rises_after net (before ++ stamped t entry ∷ []) journal ts) h) in
    let above = and_first _ (rises_after net (before ++ stamped t entry ∷ []) journal ts) h in
    let first : is_stamp t ≡ true = and_first (is_stamp t) _ above in
    (rw (first, rest.0) refl, ap (λ n. suc n) rest.1)

pub rising_stamps : (net : Network) (journal : List Entry) (ts : List ℕ) → Rising net journal ts
    → AreStamps journal ts
rising_stamps net journal ts rising = stamps_rise net [] journal ts rising

-- a journal that is held, and is legal and rising, is judged
judged_is : (o : Option Files) (replay : ReplayWords) (net : Network) (trace : List TraceItem)
    (journal : List Entry) (stamps : Option (List ℕ)) (complete : Bool)
    → WhereTold o (HoldsBoth replay net trace)
    → WhereTold o (λ files. HoldsJournal files replay.journal net journal stamps)
    → IsFound net trace journal stamps (IsLegal complete)
    → WhereTold o (λ files. IsJudged replay files net trace journal complete)
judged_is o replay net trace journal stamps complete held holds found =
    told_both o (HoldsBoth replay net trace)
    (λ files. HoldsJournal files replay.journal net journal stamps) _
    (λ files h k. record {
      stamps = stamps;
      holds = record { holds_net = h.0; holds_trace = h.1; holds_journal = k };
      lawful = found.0;
      ends = found.1;
    }) held holds

pub judgment_is : (o : Option Files) (replay : ReplayWords) (loaded : ReplayFiles)
    (judged : Judged) → AreLoaded replay o loaded → IsJudgmentOf loaded judged
    → WhereTold o (λ files. IsJudged replay files judged.inputs.net judged.inputs.trace
    judged.read.journal judged.complete)
judgment_is o replay loaded judged l j =
    let net = loaded.inputs.net in
    let read = loaded.file.read in
    rw (j.inputs, j.read)
    (judged_is o replay net loaded.inputs.trace read.journal read.stamps judged.complete l.held
    (journal_held o net replay.journal loaded.file.text read.journal read.stamps
    read.says_complete l.text l.read)
    j.found)

legal_alone : (net : Network) (trace : List TraceItem) (journal : List Entry)
    (stamps : Option (List ℕ)) → LegalAndRising net trace journal stamps → Legal net trace journal
legal_alone net trace journal None h = h
legal_alone net trace journal (Some stamps) h = h.0

pub judgment_legal : (loaded : ReplayFiles) (judged : Judged) → IsJudgmentOf loaded judged
    → Legal judged.inputs.net judged.inputs.trace judged.read.journal
judgment_legal loaded judged j =
    let read = loaded.file.read in
    rw (j.inputs, j.read)
    (legal_alone loaded.inputs.net loaded.inputs.trace read.journal read.stamps j.found.0)

pub judgment_few : (loaded : ReplayFiles) (judged : Judged) → FitTogether loaded
    → IsJudgmentOf loaded judged → length judged.read.journal ≤ ENTRIES_MAX
judgment_few loaded judged fit j = rw j.read fit.few

pub judgment_deterministic : (loaded : ReplayFiles) (judged : Judged) → FitTogether loaded
    → IsJudgmentOf loaded judged → AreDeterministic judged.inputs.net
judgment_deterministic loaded judged fit j = rw j.inputs fit.deterministic

-- the journal fails, the network and the trace being accepted
pub journal_fails : (o : Option Files) (replay : ReplayWords) (net : Network)
    (trace : List TraceItem) (name : List ℕ) (cause : Cause) → name ≡ replay.journal
    → WhereTold o (HoldsBoth replay net trace)
    → WhereTold o (λ files. (other : Network) → HoldsNet files replay.net other → other ≡ net)
    → WhereTold o (λ files. (items : List TraceItem)
    → JournalFails files net items replay.journal cause)
    → WhereTold o (λ files. FailsReplay replay files name cause)
journal_fails o replay net trace name cause same held one fails =
    told_both o (λ files. HoldsBoth replay net trace files
    × ((other : Network) → HoldsNet files replay.net other → other ≡ net))
    (λ files. (items : List TraceItem) → JournalFails files net items replay.journal cause) _
    (λ files h f. inr (
      same,
      net,
      trace,
      h.0.0,
      h.0.1,
      λ other items k l.
          subst (λ (n : Network). JournalFails files n items replay.journal cause)
          (sym (h.1 other k))
          (f items),
    ))
    (told_both o (HoldsBoth replay net trace) (λ files. (other : Network)
    → HoldsNet files replay.net other → other ≡ net) _ (λ files a b. (a, b)) held one) fails

-- one trace is held under a name
one_trace : (files : Files) (name : List ℕ) (net : Network) (trace items : List TraceItem)
    → HoldsTrace files name net trace → HoldsTrace files name net items → items ≡ trace
one_trace files name net trace items h k =
    let same = one_text (bytes_at files name) h.text k.text h.holds.held k.holds.held in
    let a = h.read in
    let b : trace_of net h.text ≡ Ok items =
    subst (λ (t : List ℕ). trace_of net t ≡ Ok items) same k.read in
    cc

-- the journal isn't legal, the three files being accepted
pub illegal_fails : (o : Option Files) (replay : ReplayWords) (net : Network)
    (trace : List TraceItem) (journal : List Entry) (stamps : Option (List ℕ)) (name : List ℕ)
    (k : ℕ) → name ≡ replay.journal
    → WhereTold o (HoldsBoth replay net trace)
    → WhereTold o (λ files. (other : Network) → HoldsNet files replay.net other → other ≡ net)
    → WhereTold o (λ files. HoldsJournal files replay.journal net journal stamps)
    → IsFirstIllegal net trace journal stamps k
    → WhereTold o (λ files. FailsReplay replay files name (Unlawful k))
illegal_fails o replay net trace journal stamps name k same held one holds fall =
    told_both o (λ files. HoldsBoth replay net trace files
    × ((other : Network) → HoldsNet files replay.net other → other ≡ net))
    (λ files. HoldsJournal files replay.journal net journal stamps) _
    (λ files h j. inr (
      same,
      net,
      trace,
      h.0.0,
      h.0.1,
      λ other items n t.
          subst (λ (m : Network). JournalFails files m items replay.journal (Unlawful k))
          (sym (h.1 other n))
          (subst (λ (xs : List TraceItem). JournalFails files net xs replay.journal (Unlawful k))
          (sym (one_trace files replay.trace net trace items h.0.1
          (subst (λ (m : Network). HoldsTrace files replay.trace m items) (h.1 other n) t)))
          (inr (j.text, j.holds, (journal, stamps, j.word, j.read, fall)))),
    ))
    (told_both o (HoldsBoth replay net trace) (λ files. (other : Network)
    → HoldsNet files replay.net other → other ≡ net) _ (λ files a b. (a, b)) held one) holds
