-- Where the tokens of a text lie in it.
use Rattle.std.specs.Prelude.{◌≡◌, ℕ, ◌+◌, ◌<◌, ◌≤◌, true, List, [], ◌∷◌, length, take, drop, ⊤}
use Rattle.std.specs.Result.{is_ok}
use Rattle.polis_base.specs.Names.{is_name}
use Rattle.polis_base.specs.declared.token.Token.{Token}
use Rattle.polis_base.specs.declared.token.Kind.TheVariants.{Name}
use Rattle.polis_base.specs.declared.lex.Scan.TheVariants.{Read}
use Rattle.polis_base.specs.Tokens.{scan, with_token, tokens_after, marked_after}

-- the token's bytes in its text
abbrev pub slice_of : List ℕ → Token → List ℕ
slice_of text token = take token.len (drop token.at text)

-- A token of the text: it lies in it and has at least one byte, the text has just this token at its
-- place, and the bytes of a name are a name.
pub record IsToken (text : List ℕ) (token : Token) : Type 0 where
  pub some : 0 < token.len
  pub within : token.at + token.len ≤ length text
  pub longest : scan token.at (drop token.at text) ≡ Read token.kind token.len
  pub name : token.kind ≡ Name → is_name (slice_of text token) ≡ true

-- each begins at this place or after it, and after the one before
abbrev pub AreInOrder : ℕ → List Token → Type 0
AreInOrder from [] = ⊤
AreInOrder from (token ∷ tokens) = (from ≤ token.at) × AreInOrder (token.at + token.len) tokens

-- A token of the text at a place or after it: what reads from the place on is this token, and then
-- what reads after it.
pub record IsRead (text : List ℕ) (from : ℕ) (token : Token) : Type 0 where
  pub is : IsToken text token
  pub first : tokens_after text from ≡ with_token token (tokens_after text (token.at + token.len))
  pub rest : is_ok (tokens_after text (token.at + token.len)) ≡ true

-- The first token at a place of the text or after it, or the mark of one that doesn't read. It is no
-- mark where all from the place on reads.
pub record IsNext (text : List ℕ) (from : ℕ) (token : Token) : Type 0 where
  pub begins : from ≤ token.at
  pub within : token.at + token.len ≤ length text
  pub name : token.kind ≡ Name → is_name (slice_of text token) ≡ true
  pub first : marked_after text from ≡ token ∷ marked_after text (token.at + token.len)
  pub read : is_ok (tokens_after text from) ≡ true → IsRead text from token
