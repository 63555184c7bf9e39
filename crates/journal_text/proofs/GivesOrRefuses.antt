-- What the reader answers, from what the definition gives and the laws of the texts.
use Rattle.std.proofs.Common.{◌≡◌, ◌≢◌, ◌∙◌, inl, inr, ℕ, Bool, List, ◌∷◌, ◌++◌, Option, Some, None, Result, Ok, Err, IfOk, IsTrue, refl, ap, sym}
use Rattle.transition_table.specs.declared.network.Network.{Network}
use Rattle.journals.specs.declared.entry.Entry.{Entry}
use Rattle.journal_text.specs.Forms.{Text, lines_of}
use Rattle.journal_text.specs.Reading.{ReadText, read_of}
use Rattle.journal_text.specs.Holding.{names_hold}
use Rattle.journal_text.specs.Laws.{ReadsBack, StampedReadsBack, ReadIsPrinted, StampedReadIsPrinted, PrefixFaults, StampedPrefixFaults, prefix_fault}
use Rattle.journal_text.specs.Answered.{text_of, IsPrintable, Gives, Refuses}
use Rattle.journal_text.specs.declared.read.ReadJournal.{ReadJournal}
use Rattle.journal_text.specs.declared.fault.JournalKind.{JournalKind}
use Rattle.journal_text.specs.declared.fault.JournalFault.{JournalFault}
use Rattle.journal_text.specs.declared.fault.JournalFault.TheVariants.{Line, NoMemory}
use Rattle.journal_text.proofs.EntryIsPrinted.{ok_same}

err_same : {A E : Type 0} {a b : E} → ◌≡◌ {A = Result A E} (Err a) (Err b) → a ≡ b
err_same h = cc

ok_or_err : {A E : Type 0} {a : A} {b : E} → ◌≡◌ {A = Result A E} (Ok a) (Err b) → ⊥
ok_or_err h = cc

has_place : (line : ℕ) (kind : JournalKind) → Line line kind ≢ NoMemory
has_place line kind h = cc

abbrev Read : Network → Text → Result ReadJournal JournalFault → Type 0
Read net text result =
    IfOk result (λ r. read_of net text ≡ Ok (r.journal, r.stamps, r.says_complete))

abbrev Fault : Network → Text → Result ReadJournal JournalFault → Type 0
Fault net text result = (fault : JournalFault) → result ≡ Err fault → fault ≢ NoMemory
    → read_of net text ≡ Err fault

text_is : ReadIsPrinted → StampedReadIsPrinted → (net : Network) (text : Text)
    (journal : List Entry) (stamps : Option (List ℕ)) (complete : Bool)
    → read_of net text ≡ Ok (journal, stamps, complete)
    → text ≡ text_of net (journal, stamps, complete)
text_is plain stamped net text journal None complete h = (plain net text journal complete h).0
text_is plain stamped net text journal (Some stamps) complete h =
    (stamped net text journal stamps complete h).0

-- what was read was printed
pub is_printed : ReadIsPrinted → StampedReadIsPrinted → (net : Network) (text : Text)
    (result : Result ReadJournal JournalFault) → Read net text result
    → IfOk result (λ r. text ≡ text_of net (r.journal, r.stamps, r.says_complete))
is_printed plain stamped net text (Ok r) h =
    text_is plain stamped net text r.journal r.stamps r.says_complete h
is_printed plain stamped net text (Err fault) h = tt

-- what the definition gives is what was read
given : (net : Network) (text : Text) (result : Result ReadJournal JournalFault) (read : ReadText)
    → Read net text result → Fault net text result → read_of net text ≡ Ok read → Gives result read
given net text (Ok r) read h bad is = ok_same (sym h ∙ is)
given net text (Err (Line line kind)) read h bad is =
    absurd (ok_or_err (sym is ∙ bad (Line line kind) refl (has_place line kind)))
given net text (Err NoMemory) read h bad is = refl

-- what is printed was read
pub was_read : ReadsBack → StampedReadsBack → (net : Network) → IsTrue (names_hold net)
    → (text : Text) (result : Result ReadJournal JournalFault) → Read net text result
    → Fault net text result → (read : ReadText) → IsPrintable net read → text ≡ text_of net read
    → Gives result read
was_read plain stamped net names text result h bad (journal, None, complete) can is =
    given net text result (journal, None, complete) h bad
    (ap (read_of net) is ∙ plain net journal complete (names, can.0, can.1))
was_read plain stamped net names text result h bad (journal, Some stamps, complete) can is =
    given net text result (journal, Some stamps, complete) h bad
    (ap (read_of net) is ∙ stamped net journal stamps complete (names, can.0, can.1) can.2)

-- the fault that the definition gives was found
found : (net : Network) (text : Text) (result : Result ReadJournal JournalFault)
    (fault : JournalFault) → Read net text result → Fault net text result
    → read_of net text ≡ Err fault → Refuses result fault
found net text (Ok r) fault h bad is = absurd (ok_or_err (sym h ∙ is))
found net text (Err (Line line kind)) fault h bad is =
    inr (ap Err (err_same (sym (bad (Line line kind) refl (has_place line kind)) ∙ is)))
found net text (Err NoMemory) fault h bad is = inl refl

-- a prefix of what is printed, but the whole, was refused
pub was_refused : PrefixFaults → StampedPrefixFaults → (net : Network) → IsTrue (names_hold net)
    → (text : Text) (result : Result ReadJournal JournalFault) → Read net text result
    → Fault net text result → (read : ReadText) (c : ℕ) (rest : Text) → IsPrintable net read
    → text_of net read ≡ text ++ c ∷ rest → Refuses result (prefix_fault (lines_of text))
was_refused plain stamped net names text result h bad (journal, None, complete) c rest can is =
    found net text result (prefix_fault (lines_of text)) h bad
    (plain net journal complete text c rest (names, can.0, can.1) is)
was_refused plain stamped net names text result h bad (journal, Some stamps, complete) c rest can is =
    found net text result (prefix_fault (lines_of text)) h bad
    (stamped net journal stamps complete text c rest (names, can.0, can.1) can.2 is)
