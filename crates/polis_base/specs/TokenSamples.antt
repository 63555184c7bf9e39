-- Small texts and what is read of them.
use Rattle.std.specs.Prelude.{◌≡◌, ℕ, List, [], ◌∷◌, ◌++◌, Ok, Err, codes}
use Rattle.polis_base.specs.declared.token.Kind.{Kind}
use Rattle.polis_base.specs.declared.token.Kind.TheVariants.{Keyword, Name, Number, Sign}
use Rattle.polis_base.specs.declared.token.Keyword.TheVariants.{KwIn}
use Rattle.polis_base.specs.declared.token.Sign.TheVariants.{Assign, DotDot}
use Rattle.polis_base.specs.declared.token.Token.{Token}
use Rattle.polis_base.specs.declared.token.LexError.{LexError}
use Rattle.polis_base.specs.Tokens.{tokens_of, mark, marked_after}

-- a text that reads as these kinds, each with its place and its number of bytes
abbrev pub Reads : List ℕ → List Token → Type 0
Reads text tokens = tokens_of text ≡ Ok tokens

-- a text that doesn't read, for this reason
abbrev pub Fails : List ℕ → LexError → Type 0
Fails text error = tokens_of text ≡ Err error

-- a text that is met as these tokens, the last of which may be a mark
abbrev pub Meets : List ℕ → List Token → Type 0
Meets text tokens = marked_after text 0 ≡ tokens

abbrev token : Kind → ℕ → ℕ → Token
token kind at len = record { kind = kind; at = at; len = len }

abbrev pub zero_zero_seven : List Token
zero_zero_seven = token (Number 0) 0 1 ∷ token (Number 0) 1 1 ∷ token (Number 7) 2 1 ∷ []

abbrev pub zero_to_seven : List Token
zero_to_seven = token (Number 0) 0 1 ∷ token (Sign DotDot) 1 2 ∷ token (Number 7) 3 1 ∷ []

abbrev pub one_and_x : List Token
one_and_x = token (Number 1) 0 1 ∷ token Name 1 1 ∷ []

abbrev pub assign : List Token
assign = token (Sign Assign) 0 2 ∷ []

abbrev pub keyword_and_name : List Token
keyword_and_name = token (Keyword KwIn) 0 2 ∷ token Name 3 3 ∷ []

abbrev pub longest_name : List Token
longest_name = token Name 0 24 ∷ []

abbrev pub largest_number : List Token
largest_number = token (Number 4294967295) 0 10 ∷ []

-- a name after a comment that an LF ends
abbrev pub after_comment : List Token
after_comment = token Name 3 1 ∷ []

abbrev pub comment_then : ℕ → List ℕ
comment_then c = codes "#a" ++ c ∷ codes "b"

-- a name, and then a mark with all six bytes that are left
abbrev pub name_and_mark : List Token
name_and_mark = token Name 0 1 ∷ mark 2 6 ∷ []
