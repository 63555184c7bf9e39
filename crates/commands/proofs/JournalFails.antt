-- Why a journal isn't read, or isn't legal and rising.
use Rattle.std.proofs.Common.{◌≡◌, inl, inr, ◌+◌, ℕ, Bool, List, take, drop, Option, Some, None, Ok, sym, ap, subst}
use Rattle.std.proofs.lemmas.List.{take-append-drop}
use Rattle.std.specs.Prelude.{Result}
use Rattle.polis_base.specs.declared.limits.TheConstants.{LONG_FILE_MAX}
use Rattle.polis_base.specs.Host.{Files, bytes_at}
use Rattle.transition_table.specs.declared.network.Network.{Network}
use Rattle.journals.specs.declared.entry.Entry.{Entry}
use Rattle.journals.specs.declared.entry.TraceItem.{TraceItem}
use Rattle.journals.specs.Legality.{Legal}
use Rattle.journals.proofs.Legal.{prefixes_are_legal}
use Rattle.journals.proofs.LeastStamps.{prefixes_rise}
use Rattle.journal_text.specs.declared.fault.JournalFault.{JournalFault}
use Rattle.journal_text.specs.Reading.{ReadText, read_of}
use Rattle.polis_words.specs.declared.cause.Cause.{Cause}
use Rattle.polis_words.specs.declared.cause.Cause.TheVariants.{JournalLine, Illegal as Unlawful}
use Rattle.polis_words.specs.declared.status.Status.TheVariants.{Refused, Illegal}
use Rattle.polis_words.specs.Lines.{cause_status}
use Rattle.input_files.specs.JournalFiles.{HoldsJournal, IsJournalFault, JournalFails, LegalAndRising, IsFirstIllegal}
use Rattle.input_files.specs.Failures.{is_finding}
use Rattle.input_files.proofs.Holds.{one_text}
use Rattle.input_files.proofs.InputsFail.{load_refused, load_unfound}

abbrev ReadsJournal : Network → List ℕ → List Entry → Option (List ℕ) → Bool → Type 0
ReadsJournal net text journal stamps word = read_of net text ≡ Ok (journal, stamps, word)

journal_line_refused : (net : Network) (trace : List TraceItem) (text : List ℕ)
    (journal : List Entry) (stamps : Option (List ℕ)) (word : Bool) (cause : Cause)
    → cause_status cause ≡ Refused
    → IsJournalFault net trace text cause → ReadsJournal net text journal stamps word → ⊥
journal_line_refused net trace text journal stamps word (JournalLine line kind) s h k = cc
journal_line_refused net trace text journal stamps word (Unlawful entry) s h k = cc
journal_line_refused net trace text journal stamps word other s h k = absurd h

-- a journal text that fails isn't read
pub journal_refused : (files : Files) (net : Network) (trace : List TraceItem) (name : List ℕ)
    (cause : Cause) (journal : List Entry) (stamps : Option (List ℕ)) → cause_status cause ≡ Refused
    → JournalFails files net trace name cause → HoldsJournal files name net journal stamps → ⊥
journal_refused files net trace name cause journal stamps s (inl h) k =
    load_refused files LONG_FILE_MAX name k.text cause s h k.holds
journal_refused files net trace name cause journal stamps s (inr (text, holds, fault)) k =
    journal_line_refused net trace text journal stamps k.word cause s fault
    (subst (λ (t : List ℕ). ReadsJournal net t journal stamps k.word)
    (one_text (bytes_at files name) text k.text holds.held k.holds.held) k.read)

-- the first entries of a legal journal are legal
first_legal : (net : Network) (trace : List TraceItem) (journal : List Entry) (k : ℕ)
    → Legal net trace journal → Legal net trace (take k journal)
first_legal net trace journal k h =
    prefixes_are_legal net trace (take k journal) (drop k journal)
    (subst (Legal net trace) (sym (take-append-drop k journal)) h)

-- where the first entries aren't legal and rising the journal isn't
unlawful : (net : Network) (trace : List TraceItem) (journal : List Entry)
    (stamps : Option (List ℕ)) (k : ℕ) → IsFirstIllegal net trace journal stamps k
    → ¬ LegalAndRising net trace journal stamps
unlawful net trace journal None k h =
    λ lawful. h.2 (first_legal net trace journal (k + 1) lawful)
unlawful net trace journal (Some stamps) k h =
    λ lawful. h.2 (
      first_legal net trace journal (k + 1) lawful.0,
      prefixes_rise net journal stamps (k + 1) lawful.1,
    )

-- what is read is one journal with its stamps
same_read : (said : Result ReadText JournalFault) (a b : List Entry) (s t : Option (List ℕ))
    (v w : Bool) → said ≡ Ok (a, s, v) → said ≡ Ok (b, t, w) → (a ≡ b) × (s ≡ t)
same_read said a b s t v w h k =
    let same : ◌≡◌ {A = ReadText} (a, s, v) (b, t, w) = cc in
    (ap (λ (read : ReadText). read.0) same, ap (λ (read : ReadText). read.1) same)

-- the journal that a text says, and that isn't legal and rising, is the one that is held
journal_unlawful : (net : Network) (trace : List TraceItem) (text : List ℕ) (journal : List Entry)
    (stamps : Option (List ℕ)) (word : Bool) (cause : Cause)
    → cause_status cause ≡ Illegal → IsJournalFault net trace text cause
    → ReadsJournal net text journal stamps word → ¬ LegalAndRising net trace journal stamps
journal_unlawful net trace text journal stamps word (Unlawful k) s
    (other, given, last, read, illegal) k' =
    let same = same_read (read_of net text) other journal given stamps last word read k' in
    subst (λ (j : List Entry). ¬ LegalAndRising net trace j stamps) same.0
    (subst (λ (t : Option (List ℕ)). ¬ LegalAndRising net trace other t) same.1
    (unlawful net trace other given k illegal))
journal_unlawful net trace text journal stamps word (JournalLine line kind) s h k' = cc
journal_unlawful net trace text journal stamps word other s h k' = absurd h

pub held_unlawful : (files : Files) (net : Network) (trace : List TraceItem) (name : List ℕ)
    (cause : Cause) (journal : List Entry) (stamps : Option (List ℕ))
    → cause_status cause ≡ Illegal → JournalFails files net trace name cause
    → HoldsJournal files name net journal stamps → ¬ LegalAndRising net trace journal stamps
held_unlawful files net trace name cause journal stamps s (inl h) k =
    absurd (load_unfound files LONG_FILE_MAX name cause (ap is_finding s) h)
held_unlawful files net trace name cause journal stamps s (inr (text, holds, fault)) k =
    journal_unlawful net trace text journal stamps k.word cause s fault
    (subst (λ (t : List ℕ). ReadsJournal net t journal stamps k.word)
    (one_text (bytes_at files name) text k.text holds.held k.holds.held) k.read)

-- the journal that a fault speaks of
pub faulty_journal : (files : Files) (net : Network) (trace : List TraceItem) (name : List ℕ)
    (cause : Cause) → cause_status cause ≡ Illegal → JournalFails files net trace name cause
    → (journal : List Entry) × (stamps : Option (List ℕ))
    × HoldsJournal files name net journal stamps
faulty_journal files net trace name cause s (inl h) =
    absurd (load_unfound files LONG_FILE_MAX name cause (ap is_finding s) h)
faulty_journal files net trace name cause s (inr (text, holds, fault)) = of_cause cause s fault
  where
    of_cause : (cause : Cause) → cause_status cause ≡ Illegal → IsJournalFault net trace text cause
        → (journal : List Entry) × (stamps : Option (List ℕ))
        × HoldsJournal files name net journal stamps
    of_cause (Unlawful k) s (journal, stamps, word, read, illegal) =
        (journal, stamps, record { text = text; holds = holds; word = word; read = read })
    of_cause (JournalLine line kind) s h = cc
    of_cause other s h = absurd h
