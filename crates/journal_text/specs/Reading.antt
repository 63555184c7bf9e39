-- What a journal text says: its journal, its stamps and its last word, or its first line at fault
-- with its first kind.
use Rattle.std.specs.Prelude.{ℕ, ◌+◌, cond, Bool, true, false, not, ◌||◌, ◌==◌, nat_lt, List, [], ◌∷◌, ◌++◌, length, map, Option, Some, None, Result, Ok, Err, codes}
use Rattle.polis_base.specs.declared.limits.TheConstants.{ENTRIES_MAX}
use Rattle.domains.specs.Names.{is_same}
use Rattle.transition_table.specs.declared.network.Network.{Network}
use Rattle.journals.specs.declared.entry.Entry.{Entry}
use Rattle.journal_text.specs.Texts.{is_stamp}
use Rattle.journal_text.specs.Forms.{Text, Texts, EntryForm, lines_of, words_of, last_form, stamped_form}
use Rattle.polis_base.specs.Pieces.{is_nonempty}
use Rattle.journal_text.specs.Items.{entry_read}
use Rattle.journal_text.specs.declared.fault.JournalKind.{JournalKind}
use Rattle.journal_text.specs.declared.fault.JournalKind.TheVariants.{Header, Shape, Many, Count, After, End, Stamp}
use Rattle.journal_text.specs.declared.fault.JournalFault.{JournalFault}
use Rattle.journal_text.specs.declared.fault.JournalFault.TheVariants.{Line}

-- entries with their stamps; in version 1 each stamp is 0
abbrev pub Timeline : Type 0
Timeline = List (ℕ × Entry)

-- what a line says after the entries before it: one entry more, the end with `complete` or `limit`,
-- or a fault
pub data Said : Type 0 where
  More : ℕ × Entry → Said
  Last : Bool → Said
  Bad : JournalKind → Said

abbrev pub said_entry : ℕ → Result Entry JournalKind → Said
said_entry stamp (Err kind) = Bad kind
said_entry stamp (Ok entry) = More (stamp, entry)

-- many, then stamp, then name and value
abbrev pub entry_says : Bool → Network → ℕ → Option (ℕ × EntryForm) → Said
entry_says stamped net count None = Bad Shape
entry_says stamped net count (Some (stamp, form)) =
    cond (not (nat_lt count ENTRIES_MAX)) (Bad Many)
    (cond (not (not stamped || is_stamp stamp)) (Bad Stamp)
    (said_entry stamp (entry_read net form)))

abbrev pub words_say : Bool → Network → ℕ → Texts → Option (ℕ × Bool) → Said
words_say stamped net count words (Some (number, complete)) =
    cond (number == count) (Last complete) (Bad Count)
words_say stamped net count words None = entry_says stamped net count (stamped_form stamped words)

-- what a line with its LF says after so many entries
abbrev pub line_says : Bool → Network → ℕ → Text → Said
line_says stamped net count line =
    words_say stamped net count (words_of line) (last_form (words_of line))

-- after the last line there is nothing
abbrev pub ended : ℕ → Texts → Timeline × Bool → Result (Timeline × Bool) JournalFault
ended line [] read = Ok read
ended line (rest ∷ []) read = cond (is_nonempty rest) (Err (Line (line + 1) After)) (Ok read)
ended line (rest ∷ next ∷ lines) read = Err (Line (line + 1) After)

-- what stands after the last LF: nothing, or a line without its LF
abbrev pub unended : ℕ → Text → Result (Timeline × Bool) JournalFault
unended line rest = Err (Line line (cond (is_nonempty rest) Shape End))

-- where the line before this text is one entry more, the lines after it go on; where it is the
-- last, or at fault, that is the answer
abbrev pub went_on : ℕ → Timeline → Texts → (Timeline → Result (Timeline × Bool) JournalFault)
    → Said → Result (Timeline × Bool) JournalFault
went_on line read lines go (More entry) = go (read ++ entry ∷ [])
went_on line read lines go (Last complete) = ended line lines (read, complete)
went_on line read lines go (Bad kind) = Err (Line line kind)

-- the lines from this one on, after the entries before it
abbrev pub lines_say : Bool → Network → ℕ → Timeline → Texts → Result (Timeline × Bool) JournalFault
lines_say stamped net line read [] = unended line []
lines_say stamped net line read (rest ∷ []) = unended line rest
lines_say stamped net line read (text ∷ next ∷ lines) =
    went_on line read (next ∷ lines) (λ more. lines_say stamped net (line + 1) more (next ∷ lines))
    (line_says stamped net (length read) text)

-- whether the first line is that of version 2, or of version 1
abbrev pub version_of : Text → Option Bool
version_of line =
    cond (is_same line (codes "polis journal 1")) (Some false)
    (cond (is_same line (codes "polis journal 2")) (Some true) None)

-- what is read: the journal, the stamps in version 2, and whether the last word is `complete`
abbrev pub ReadText : Type 0
ReadText = List Entry × Option (List ℕ) × Bool

abbrev pub as_read : Bool → Timeline × Bool → ReadText
as_read stamped (entries, complete) = (
  map (λ (p : ℕ × Entry). p.1) entries,
  cond stamped (Some (map (λ (p : ℕ × Entry). p.0) entries)) None,
  complete,
)

abbrev pub read_as : Bool → Result (Timeline × Bool) JournalFault → Result ReadText JournalFault
read_as stamped (Err fault) = Err fault
read_as stamped (Ok read) = Ok (as_read stamped read)

abbrev pub body_says : Network → Option Bool → Texts → Result ReadText JournalFault
body_says net None lines = Err (Line 1 Header)
body_says net (Some stamped) lines = read_as stamped (lines_say stamped net 2 [] lines)

abbrev pub text_says : Network → Texts → Result ReadText JournalFault
text_says net [] = Err (Line 1 Header)
text_says net (rest ∷ []) = Err (Line 1 Header)
text_says net (first ∷ next ∷ lines) = body_says net (version_of first) (next ∷ lines)

-- what a text says, where lines are numbered from 1
abbrev pub read_of : Network → Text → Result ReadText JournalFault
read_of net text = text_says net (lines_of text)
