-- What is said of a fault.
use Rattle.std.specs.Prelude.{ℕ, List, ◌++◌, Option, Some, None, codes, decimal, cond, ◌==◌, []}
use Rattle.trace_text.specs.declared.fault.TraceKind.{TraceKind}
use Rattle.trace_text.specs.declared.fault.TraceKind.TheVariants.{Shape, Event, Value, Many}
use Rattle.journal_text.specs.declared.fault.JournalKind.{JournalKind}
use Rattle.journal_text.specs.declared.fault.JournalKind.TheVariants.{Header, After, End, Shape as LineShape, Many as ManyEntries, Stamp, Name as ItemName, Value as ItemValue, Count}
use Rattle.net_core.specs.declared.answer.Why.{Why}
use Rattle.net_core.specs.declared.answer.Why.TheVariants.{NotOwed, NotWoken, Snapshot, Outcome}
use Rattle.polis_words.specs.declared.cause.Conflict.{Conflict}
use Rattle.polis_words.specs.declared.cause.LexKind.{LexKind}
use Rattle.polis_words.specs.declared.cause.LexKind.TheVariants.{Byte, Name, Number}

-- of a file that isn't there, and of one that is longer than its limit
abbrev pub absent_sentence : List ℕ
absent_sentence = codes "no file has this name"

abbrev pub long_sentence : ℕ → List ℕ
long_sentence limit = codes "the file is longer than " ++ decimal limit ++ codes " bytes"

-- of a token that doesn't read
abbrev pub lex_sentence : LexKind → List ℕ
lex_sentence Byte = codes "no token begins with this byte"
lex_sentence Name = codes "a name has at most 24 bytes"
lex_sentence Number = codes "a number is at most 4294967295"

-- of a text that ends where a token is missing, after this token, if there is one
abbrev pub end_sentence : Option (List ℕ) → List ℕ
end_sentence None = codes "the text is empty"
end_sentence (Some word) = codes "the text ends too early, after " ++ word

-- of a token that can't stand where it stands, after this one, if there is one
abbrev pub place_sentence : Option (List ℕ) → List ℕ
place_sentence None = codes "no text begins with this"
place_sentence (Some word) = codes "this can't stand after " ++ word

-- of a rule, by its number
abbrev pub rule_sentence : ℕ → List ℕ
rule_sentence rule =
    cond (rule == 1) (codes "the version is 1 or 2")
    (cond (rule == 2) (codes "a network has at most 64 domains, 256 events and 64 machines")
    (cond (rule == 3) (codes "an earlier declaration of this kind has this name")
    (cond (rule == 4) (codes "the names of a domain differ, and a range doesn't go down")
    (cond (rule == 5) (codes "a domain has at most 32 values")
    (cond (rule == 6) (codes "no domain has this name")
    (cond (rule == 7) (codes "no event has this name")
    (cond (rule == 8)
    (codes "an earlier input, output or state variable of the machine has this name")
    (cond (rule == 9)
    (codes "a machine has at most 16 inputs, 16 outputs, 8 state variables and 512 rows")
    (cond (rule == 10) (codes "a priority is at most 255")
    (cond (rule == 11) (codes "an event has one sender, a machine or the environment")
    (cond (rule == 12) (codes "no machine sends this event, and it isn't from env")
    (cond (rule == 13) (codes "no machine reads this event, and it isn't to env")
    (cond (rule == 14) (codes "this is no value of the variable's domain")
    (cond (rule == 15) (codes "the machine has no such input or state variable")
    (cond (rule == 16)
    (codes "a state variable stands before = or in, an event without a domain doesn't")
    (cond (rule == 17) (codes "this is no value of the domain")
    (cond (rule == 18)
    (codes "emit takes an output of the machine and := a state variable, each at most once in a row")
    (cond (rule == 19) (codes "the value is missing, not wanted, or not of the domain")
    (cond (rule == 20) (codes "a machine has at most 65536 snapshots")
    (cond (rule == 21) (codes "only an input with a domain stands after value")
    (cond (rule == 22) (codes "the row's conditions don't say that this input is present")
    (cond (rule == 23) (codes "this input has another domain")
    (cond (rule == 24) (codes "a sum adds to the variable that it sets")
    (cond (rule == 25) (codes "what is added is below the domain's size") []))))))))))))))))))))))))

-- of a line of a trace, and of a line of a journal
abbrev pub trace_sentence : TraceKind → List ℕ
trace_sentence Shape = codes "a line has an event, an event and its value, or settle"
trace_sentence Event = codes "this is no event from the environment"
trace_sentence Value = codes "the value is missing, not wanted, or not of the event's domain"
trace_sentence Many = codes "a trace has at most 10000 items"

abbrev pub journal_sentence : JournalKind → List ℕ
journal_sentence Header = codes "line 1 is polis journal 1 or polis journal 2, with its line end"
journal_sentence After = codes "nothing stands after the last line"
journal_sentence End = codes "the last line, end K complete or end K limit, is missing"
journal_sentence LineShape = codes "this is no line of a journal, or its line end is missing"
journal_sentence ManyEntries = codes "a journal has at most 60000 entries"
journal_sentence Stamp = codes "a stamp is from 1 to 1099511627776"
journal_sentence ItemName = codes "a name is missing, not known here, or not in its place"
journal_sentence ItemValue = codes "a value is missing, not wanted, or not of its domain"
journal_sentence Count = codes "this isn't the number of entries"

-- of an entry that may not follow those before it, for this cause, or whose stamp doesn't rise
abbrev pub why_sentence : Option Why → List ℕ
why_sentence (Some NotOwed) = codes "its sender doesn't owe its receiver this delivery next"
why_sentence (Some NotWoken) = codes "nothing came to this machine since its last reaction"
why_sentence (Some Snapshot) = codes "this isn't what the machine reads here"
why_sentence (Some Outcome) = codes "this isn't what the machine's table gives"
why_sentence None = codes "the stamp isn't above those that it comes after"

-- of the two rows of a machine that conflict
abbrev pub first_row_sentence : Conflict → List ℕ
first_row_sentence c =
    codes "row " ++ decimal c.row_a ++ codes " of machine " ++ c.name ++ codes " is enabled on "
    ++ c.snapshot

abbrev pub second_row_sentence : Conflict → List ℕ
second_row_sentence c = codes "row " ++ decimal c.row_b ++ codes " is too, with another result"
