-- Why calls end before their work is done, the statuses with which they end, and the lines that
-- they show.
use Rattle.std.specs.Prelude.{ℕ, List, ◌++◌, codes, decimal}
use Rattle.polis_base.specs.Lines.{line}
use Rattle.polis_base.specs.declared.token.LexError.{LexError}
use Rattle.polis_base.specs.declared.token.LexError.TheVariants.{BadByte, NameTooLong, NumberTooLarge}
use Rattle.trace_text.specs.declared.fault.TraceKind.{TraceKind}
use Rattle.trace_text.specs.declared.fault.TraceKind.TheVariants.{Shape, Event, Value, Many}
use Rattle.journal_text.specs.declared.fault.JournalKind.{JournalKind}
use Rattle.journal_text.specs.declared.fault.JournalKind.TheVariants.{Header, After, End, Shape as LineShape, Many as ManyEntries, Stamp, Name as ItemName, Value as ItemValue, Count}
use Rattle.polis_words.specs.declared.cause.Conflict.{Conflict as ConflictingRows}
use Rattle.polis_words.specs.declared.cause.LexKind.{LexKind}
use Rattle.polis_words.specs.declared.cause.LexKind.TheVariants.{Byte, Name, Number}
use Rattle.polis_words.specs.declared.cause.Cause.{Cause}
use Rattle.polis_words.specs.declared.cause.Cause.TheVariants.{ReadFault as Unread, Absent, TooLong, Lex, Syntax, Rule, Conflict, TraceLine, JournalLine, Illegal as Unlawful, ImageByte, ImageShape, ImageWrong, ImageLong, OtherShape, Differ as TablesDiffer}
use Rattle.polis_words.specs.declared.cause.Failure.{Failure}
use Rattle.polis_words.specs.declared.cause.Failure.TheVariants as failures
use Rattle.polis_words.specs.declared.status.Status.{Status}
use Rattle.polis_words.specs.declared.status.Status.TheVariants.{ReadFault, Refused, NoMemory, Illegal, Differ}

-- the status of a call that ends for this cause
abbrev pub cause_status : Cause → Status
cause_status Unread = ReadFault
cause_status Absent = Refused
cause_status TooLong = Refused
cause_status (Lex kind place) = Refused
cause_status (Syntax place) = Refused
cause_status (Rule rule place) = Refused
cause_status (Conflict rows) = Refused
cause_status (TraceLine line kind) = Refused
cause_status (JournalLine line kind) = Refused
cause_status (Unlawful entry) = Illegal
cause_status (ImageByte place) = Refused
cause_status (ImageShape machine) = Refused
cause_status (ImageWrong text) = Refused
cause_status ImageLong = Refused
cause_status OtherShape = Refused
cause_status (TablesDiffer text) = Differ

-- the status of a call that fails so
abbrev pub status_of : Failure → Status
status_of failures.NoMemory = NoMemory
status_of (failures.File name cause more) = cause_status cause

-- the error of a text whose first token that doesn't read is of this kind, at this place
abbrev pub lex_error : LexKind → ℕ → LexError
lex_error Byte place = BadByte place
lex_error Name place = NameTooLong place
lex_error Number place = NumberTooLarge place

abbrev pub trace_word : TraceKind → List ℕ
trace_word Shape = codes "shape"
trace_word Event = codes "event"
trace_word Value = codes "value"
trace_word Many = codes "many"

abbrev pub journal_word : JournalKind → List ℕ
journal_word Header = codes "header"
journal_word After = codes "after"
journal_word End = codes "end"
journal_word LineShape = codes "shape"
journal_word ManyEntries = codes "many"
journal_word Stamp = codes "stamp"
journal_word ItemName = codes "name"
journal_word ItemValue = codes "value"
journal_word Count = codes "count"

abbrev pub lex_word : LexKind → List ℕ
lex_word Byte = codes "byte"
lex_word Name = codes "name"
lex_word Number = codes "number"

-- `refused F WHY`
abbrev pub refused : List ℕ → List ℕ → List ℕ
refused name why = codes "refused " ++ name ++ codes " " ++ why

-- `M A B I ; X`: the machine, its two rows, and the snapshot on which they conflict
abbrev pub conflict_text : ConflictingRows → List ℕ
conflict_text c = c.name ++ codes " " ++ decimal c.row_a ++ codes " " ++ decimal c.row_b
    ++ codes " " ++ c.snapshot

-- the line of a file that isn't read or isn't accepted, or of what was found of it, without its end
abbrev pub cause_line : List ℕ → Cause → List ℕ
cause_line name Unread = codes "read fault " ++ name
cause_line name Absent = refused name (codes "absent")
cause_line name TooLong = refused name (codes "long")
cause_line name (Lex kind place) =
    refused name (codes "lex " ++ lex_word kind ++ codes " " ++ decimal place)
cause_line name (Syntax place) = refused name (codes "syntax " ++ decimal place)
cause_line name (Rule rule place) =
    refused name (codes "rule " ++ decimal rule ++ codes " " ++ decimal place)
cause_line name (Conflict rows) = refused name (codes "conflict " ++ conflict_text rows)
cause_line name (TraceLine line kind) =
    refused name (codes "line " ++ decimal line ++ codes " " ++ trace_word kind)
cause_line name (JournalLine line kind) =
    refused name (codes "line " ++ decimal line ++ codes " " ++ journal_word kind)
cause_line name (Unlawful entry) = codes "illegal " ++ decimal entry
cause_line name (ImageByte place) = refused name (codes "image byte " ++ decimal place)
cause_line name (ImageShape machine) = refused name (codes "image shape " ++ decimal machine)
cause_line name (ImageWrong text) = refused name (codes "image wrong " ++ text)
cause_line name ImageLong = refused name (codes "image long")
cause_line name OtherShape = refused name (codes "shape")
cause_line name (TablesDiffer text) = codes "differ " ++ text

-- the text of a failure: its line, and then what explains it
abbrev pub failure_text : Failure → List ℕ
failure_text failures.NoMemory = line (codes "no memory")
failure_text (failures.File name cause more) = line (cause_line name.now cause) ++ more

-- the line of a save that fails, with its end
abbrev pub write_fault_line : List ℕ → List ℕ
write_fault_line name = line (codes "write fault " ++ name)
