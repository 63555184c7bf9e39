-- Tokens with their bytes, and what one token says.
use Rattle.std.specs.Prelude.{ℕ, List, map, Option, Some, None}
use Rattle.polis_base.specs.declared.token.Kind.{Kind}
use Rattle.polis_base.specs.declared.token.Kind.TheVariants as kinds
use Rattle.polis_base.specs.declared.token.Token.{Token}
use Rattle.polis_base.specs.Spans.{slice_of}
use Rattle.net_reader.specs.declared.raw.Word.{Word}
use Rattle.net_reader.specs.declared.raw.Num.{Num}
use Rattle.net_reader.specs.declared.raw.RawValue.{RawValue}
use Rattle.net_reader.specs.declared.raw.RawValue.TheVariants as values

-- a token: its kind, its bytes and the place of the first
pub record Lexeme : Type 0 where
  pub kind : Kind
  pub bytes : List ℕ
  pub at : ℕ

abbrev pub lexeme : List ℕ → Token → Lexeme
lexeme text token = record { kind = token.kind; bytes = slice_of text token; at = token.at }

abbrev pub lexemes : List ℕ → List Token → List Lexeme
lexemes text tokens = map (lexeme text) tokens

abbrev pub word_as : Kind → Word → Option Word
word_as kinds.Name w = Some w
word_as (kinds.Number n) w = None
word_as (kinds.Keyword k) w = None
word_as (kinds.Sign s) w = None

-- the name that a token is
abbrev pub word_of : Lexeme → Option Word
word_of l = word_as l.kind (record { name = l.bytes; at = l.at })

abbrev pub num_as : Kind → ℕ → Option Num
num_as kinds.Name at = None
num_as (kinds.Number n) at = Some (record { number = n; at = at })
num_as (kinds.Keyword k) at = None
num_as (kinds.Sign s) at = None

-- the number that a token is
abbrev pub num_of : Lexeme → Option Num
num_of l = num_as l.kind l.at

abbrev pub value_as : Kind → Word → Option RawValue
value_as kinds.Name w = Some (values.Name w)
value_as (kinds.Number n) w = Some (values.Number (record { number = n; at = w.at }))
value_as (kinds.Keyword k) w = None
value_as (kinds.Sign s) w = None

-- the value that a token is: a name or a number
abbrev pub value_of : Lexeme → Option RawValue
value_of l = value_as l.kind (record { name = l.bytes; at = l.at })
