-- Why a text isn't accepted.
use Rattle.std.specs.Prelude.{⊤}
use Rattle.polis_base.specs.declared.token.LexError.{LexError}
use Rattle.polis_base.specs.declared.token.LexError.TheVariants as lexes
use Rattle.polis_words.specs.declared.cause.Cause.{Cause}
use Rattle.polis_words.specs.declared.cause.Cause.TheVariants.{Lex, Rule}
use Rattle.polis_words.specs.declared.cause.LexKind.TheVariants as kinds
use Rattle.net_rules.specs.declared.resolving.ResolveFault.{ResolveFault}
use Rattle.net_rules.specs.declared.resolving.ResolveFault.TheVariants as resolving
use Rattle.input_files.specs.declared.accept.FileFault.{FileFault}
use Rattle.input_files.specs.declared.accept.FileFault.TheVariants as faults

-- P of what is wrong with a text, unless memory ran out
abbrev pub IfCause : FileFault → (Cause → Type 0) → Type 0
IfCause (faults.Cause cause) P = P cause
IfCause faults.NoMemory P = ⊤

-- why a text whose tokens don't read isn't accepted
abbrev pub lex_fault : LexError → FileFault
lex_fault (lexes.BadByte place) = faults.Cause (Lex kinds.Byte place)
lex_fault (lexes.NameTooLong place) = faults.Cause (Lex kinds.Name place)
lex_fault (lexes.NumberTooLarge place) = faults.Cause (Lex kinds.Number place)
lex_fault lexes.NoMemory = faults.NoMemory

-- why a text whose declarations give no network isn't
abbrev pub refusal_of : ResolveFault → FileFault
refusal_of (resolving.Rule rule place) = faults.Cause (Rule rule place)
refusal_of resolving.NoMemory = faults.NoMemory
