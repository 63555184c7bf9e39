-- The token before a place of a text.
use Rattle.std.specs.Prelude.{ℕ, nat_lt, List, [], filter, Option, None, option_map}
use Rattle.std.specs.List.{last_or}
use Rattle.std.specs.Result.{result_unwrap_or}
use Rattle.polis_base.specs.declared.token.Token.{Token}
use Rattle.polis_base.specs.Spans.{slice_of}
use Rattle.polis_base.specs.Tokens.{tokens_of}

-- the tokens of a text, none where it doesn't read
abbrev pub tokens_in : List ℕ → List Token
tokens_in text = result_unwrap_or (tokens_of text) []

-- the last of the tokens that begin before a place
abbrev pub last_before : ℕ → List Token → Option Token
last_before place tokens = last_or None (filter (λ token. nat_lt token.at place) tokens)

-- the bytes of the last token that begins before a place
abbrev pub token_before : List ℕ → ℕ → Option (List ℕ)
token_before text place = option_map (slice_of text) (last_before place (tokens_in text))
