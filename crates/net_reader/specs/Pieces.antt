-- Where a reader stands.
use Rattle.std.specs.Prelude.{◌≡◌, ℕ, ◌+◌, ◌≤◌, true, List, [], ◌∷◌, length, Option, Some, None, ⊤}
use Rattle.polis_base.specs.Names.{is_name}
use Rattle.polis_base.specs.declared.token.Token.{Token}
use Rattle.polis_base.specs.declared.token.Kind.TheVariants.{Name}
use Rattle.polis_base.specs.Tokens.{marked_after}
use Rattle.polis_base.specs.Spans.{slice_of}
use Rattle.net_reader.specs.Lexemes.{Lexeme}
use Rattle.net_reader.specs.declared.reader.Piece.{Piece}

abbrev pub seen : Piece → Lexeme
seen p = record { kind = p.kind; bytes = p.bytes.now; at = p.at }

-- The tokens that are left where this one is next: it and those after it, up to the first that
-- doesn't read, which is a mark.
abbrev pub left : List ℕ → Option Token → List Token
left text None = []
left text (Some token) = token ∷ marked_after text (token.at + token.len)

-- the next token lies in the text, and the bytes of a name are a name
abbrev pub StandsAt : List ℕ → Option Token → Type 0
StandsAt text None = ⊤
StandsAt text (Some token) = (token.at + token.len ≤ length text)
    × (token.kind ≡ Name → is_name (slice_of text token) ≡ true)

-- the place of the first token, or the end where there is none
abbrev pub place_of : ℕ → List Lexeme → ℕ
place_of end [] = end
place_of end (l ∷ ls) = l.at
