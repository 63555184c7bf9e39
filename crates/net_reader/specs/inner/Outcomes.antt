-- The answer to a text, memory aside.
use Rattle.std.specs.Prelude.{ℕ, List, length, Result, Ok, Err}
use Rattle.polis_base.specs.Tokens.{tokens_of}
use Rattle.polis_base.specs.declared.token.Token.{Token}
use Rattle.polis_base.specs.declared.token.LexError.{LexError}
use Rattle.net_reader.specs.Lexemes.{lexemes}
use Rattle.net_reader.specs.Reading.{Answer, whole_at}
use Rattle.net_reader.specs.Pieces.{place_of}
use Rattle.net_reader.specs.declared.raw.RawNet.{RawNet}
use Rattle.net_reader.specs.declared.network.NetFault.{NetFault}
use Rattle.net_reader.specs.declared.network.NetFault.TheVariants as faults

abbrev pub judged : ℕ → Answer RawNet → Result RawNet NetFault
judged end (Ok x) = Ok x.0
judged end (Err rest) = Err (faults.Syntax (place_of end rest))

abbrev pub outcome_of : List ℕ → Result (List Token) LexError → Result RawNet NetFault
outcome_of text (Ok tokens) = judged (length text) (whole_at (lexemes text tokens))
outcome_of text (Err fault) = Err (faults.Lex fault)

abbrev pub outcome : List ℕ → Result RawNet NetFault
outcome text = outcome_of text (tokens_of text)
