-- What the reader's forms stand for.
use Rattle.std.specs.Prelude.{◌≡◌, ℕ, Option, None}
use Rattle.std.specs.Option.{option_and_then}
use Rattle.journal_text.specs.Forms.{Texts, EntryForm, reaction_form, fire_form, idle_form}
use Rattle.journal_text.specs.declared.codes.Stop.{Stop}
use Rattle.journal_text.specs.declared.codes.Stop.TheVariants.{Kind, NoMemory as OutOfMemory}
use Rattle.journal_text.specs.declared.fault.JournalFault.{JournalFault}
use Rattle.journal_text.specs.declared.fault.JournalFault.TheVariants.{Line, NoMemory}

-- `W : L ; L -> L ; L`
abbrev pub fire_words : Texts → Option EntryForm
fire_words words = option_and_then fire_form (reaction_form words)

-- `W : L ; L`
abbrev pub idle_words : Texts → Option EntryForm
idle_words words = option_and_then idle_form (reaction_form words)

-- neither form
abbrev pub NoReaction : Texts → Type 0
NoReaction words = (fire_words words ≡ None) × (idle_words words ≡ None)

-- the fault of a line that wasn't read to its end
abbrev pub at_line : ℕ → Stop → JournalFault
at_line line (Kind kind) = Line line kind
at_line line OutOfMemory = NoMemory
