-- What explains that a file is refused, or that its journal isn't legal.
use Rattle.std.specs.Prelude.{◌≡◌, ◌⊎◌, ℕ, ◌+◌, Bool, true, false, cond, ◌==◌, List, [], ◌++◌, length, Option, Ok}
use Rattle.polis_base.specs.declared.limits.TheConstants.{TEXT_MAX, LONG_FILE_MAX}
use Rattle.polis_base.specs.Host.{Files, WhereTold}
use Rattle.transition_table.specs.declared.network.Network.{Network}
use Rattle.journals.specs.declared.entry.Entry.{Entry}
use Rattle.journals.specs.declared.entry.TraceItem.{TraceItem}
use Rattle.journal_text.specs.Reading.{read_of}
use Rattle.net_core.specs.declared.answer.Why.{Why}
use Rattle.net_core.specs.Prefixes.{IsReason}
use Rattle.fault_text.specs.Blocks.{block_text, line_block_text, file_line_text}
use Rattle.fault_text.specs.TokensBefore.{token_before}
use Rattle.polis_words.specs.declared.cause.Cause.{Cause}
use Rattle.polis_words.specs.declared.cause.Cause.TheVariants.{ReadFault as Unread, Absent, TooLong, Lex, Syntax, Rule, Conflict, TraceLine, JournalLine, Illegal as Unlawful}
use Rattle.polis_words.specs.declared.cause.Conflict.{Conflict as ConflictingRows}
use Rattle.polis_words.specs.Replay.{ReplayWords}
use Rattle.polis_words.specs.Sentences.{absent_sentence, long_sentence, lex_sentence, end_sentence, place_sentence, rule_sentence, trace_sentence, journal_sentence, why_sentence, first_row_sentence, second_row_sentence}
use Rattle.input_files.specs.Inputs.{HoldsText, HoldsNet, HoldsTrace, InputsFail}

-- what is said of the place where a text stops being one of a network: whether it ends there, and
-- what stands before
abbrev pub syntax_sentence : List ℕ → ℕ → List ℕ
syntax_sentence text place =
    cond (place == length text) (end_sentence (token_before text place))
    (place_sentence (token_before text place))

-- a block for each of two rows that conflict
abbrev pub conflict_blocks : List ℕ → List ℕ → ConflictingRows → List ℕ
conflict_blocks name text rows =
    block_text name text rows.place_a (first_row_sentence rows)
    ++ block_text name text rows.place_b (second_row_sentence rows)

-- what explains why the text of a file isn't read or isn't accepted
abbrev pub IsExplained : List ℕ → List ℕ → Cause → List ℕ → Type 0
IsExplained name text (Lex kind place) more =
    more ≡ block_text name text place (lex_sentence kind)
IsExplained name text (Syntax place) more =
    more ≡ block_text name text place (syntax_sentence text place)
IsExplained name text (Rule rule place) more =
    more ≡ block_text name text place (rule_sentence rule)
IsExplained name text (Conflict rows) more =
    more ≡ conflict_blocks name text rows
IsExplained name text (TraceLine line kind) more =
    more ≡ line_block_text true name text line (trace_sentence kind)
IsExplained name text (JournalLine line kind) more =
    more ≡ line_block_text false name text line (journal_sentence kind)
IsExplained name text other more = ⊥

-- What explains why a file of at most so many bytes isn't loaded, isn't read or isn't accepted; a
-- load that failed is explained by nothing. What bytes explain is said of a text, which the file
-- holds where the files are told.
abbrev pub ExplainsFile : ℕ → Option Files → List ℕ → Cause → List ℕ → Type 0
ExplainsFile max told name Unread more = more ≡ []
ExplainsFile max told name Absent more = more ≡ file_line_text name absent_sentence
ExplainsFile max told name TooLong more = more ≡ file_line_text name (long_sentence max)
ExplainsFile max told name other more =
    (text : List ℕ) × WhereTold told (λ files. HoldsText files max name text)
    × IsExplained name text other more

-- What explains that the k-th entry of a journal is the first up to which it isn't legal: why it
-- can't follow those before it, or that its stamp doesn't rise. Entry 0 stands on the text's second
-- line.
pub record ExplainsIllegal (told : Option Files) (net : Network) (trace : List TraceItem)
    (name : List ℕ) (k : ℕ) (more : List ℕ) : Type 0 where
  pub text : List ℕ
  pub holds : WhereTold told (λ files. HoldsText files LONG_FILE_MAX name text)
  pub journal : List Entry
  pub stamps : Option (List ℕ)
  pub word : Bool
  pub read : read_of net text ≡ Ok (journal, stamps, word)
  pub why : Option Why
  pub reason : IsReason net trace journal k why
  pub more_is : more ≡ line_block_text false name text (k + 2) (why_sentence why)

-- what explains why a journal file isn't loaded, isn't read or isn't legal
abbrev pub ExplainsJournal : Option Files → Network → List TraceItem → List ℕ → Cause → List ℕ
    → Type 0
ExplainsJournal told net trace name (Unlawful k) more =
    ExplainsIllegal told net trace name k more
ExplainsJournal told net trace name other more =
    ExplainsFile LONG_FILE_MAX told name other more

-- what explains why a file of a replay fails: the network or the trace, or, where both are
-- accepted, the journal; the name says which it is, whether or not the files are told
abbrev pub ExplainsReplay : ReplayWords → Option Files → List ℕ → Cause → List ℕ → Type 0
ExplainsReplay replay told name cause more =
    (((name ≡ replay.net) ⊎ (name ≡ replay.trace))
    × WhereTold told (λ files. InputsFail files replay.net replay.trace name cause)
    × ExplainsFile TEXT_MAX told name cause more)
    ⊎ ((name ≡ replay.journal) × (net : Network) × (trace : List TraceItem)
    × WhereTold told (λ files. HoldsNet files replay.net net
    × HoldsTrace files replay.trace net trace)
    × ExplainsJournal told net trace name cause more)
