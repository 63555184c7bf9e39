-- The tokens of a network text: at each place the longest.
use Rattle.std.specs.Prelude.{ℕ, zero, suc, ◌+◌, ◌-◌, Bool, false, cond, not, ◌||◌, ◌==◌, nat_lt, List, [], ◌∷◌, length, drop, Option, Some, None, Result, Ok, Err}
use Rattle.std.specs.List.{take_while, prefix_len}
use Rattle.std.specs.Result.{result_err}
use Rattle.polis_base.specs.Names.{begins_name, continues_name}
use Rattle.polis_base.specs.Digits.{is_digit, number_of}
pub use Rattle.polis_base.specs.inner.Keywords.{keyword_of}
use Rattle.polis_base.specs.declared.token.Keyword.{Keyword as Reserved}
use Rattle.polis_base.specs.declared.token.Keyword.TheVariants.{KwSettle}
use Rattle.polis_base.specs.declared.token.Sign.TheVariants.{Equal, Assign, Colon, Comma, LeftBrace, RightBrace, DotDot, Plus}
use Rattle.polis_base.specs.declared.token.Kind.{Kind}
use Rattle.polis_base.specs.declared.token.Kind.TheVariants.{Keyword, Name, Number, Sign}
use Rattle.polis_base.specs.declared.token.Token.{Token}
use Rattle.polis_base.specs.declared.lex.Scan.{Scan}
use Rattle.polis_base.specs.declared.lex.Scan.TheVariants.{Skipped, Read, Faulty}
use Rattle.polis_base.specs.declared.token.LexError.{LexError}
use Rattle.polis_base.specs.declared.token.LexError.TheVariants.{BadByte, NameTooLong, NumberTooLarge}

-- space, tab, CR and LF
abbrev pub is_blank : ℕ → Bool
is_blank c = c == 32 || c == 9 || c == 13 || c == 10

-- a word that is no keyword is a name
abbrev pub word_kind : Option Reserved → Kind
word_kind None = Name
word_kind (Some keyword) = Keyword keyword

-- a word of these bytes at a place
abbrev pub scan_word : ℕ → List ℕ → Scan
scan_word at word =
    cond (nat_lt 24 (length word)) (Faulty (NameTooLong at))
    (Read (word_kind (keyword_of word)) (length word))

-- a number of these digits at a place, of which the first isn't 0
abbrev pub scan_number : ℕ → List ℕ → Scan
scan_number at digits =
    cond (nat_lt 4294967295 (number_of digits)) (Faulty (NumberTooLarge at))
    (Read (Number (number_of digits)) (length digits))

-- the next byte is this one
abbrev pub begins_with : ℕ → List ℕ → Bool
begins_with b [] = false
begins_with b (c ∷ rest) = c == b

-- A sign that begins with c at a place: `:=` and `..` have two bytes, and a lone `.` is none. As
-- bytes `=` is 61, `:` 58, `,` 44, `{` 123, `}` 125, `.` 46 and `+` 43.
abbrev pub scan_sign : ℕ → ℕ → List ℕ → Scan
scan_sign at c rest =
    cond (c == 61) (Read (Sign Equal) 1)
    (cond (c == 58) (cond (begins_with 61 rest) (Read (Sign Assign) 2) (Read (Sign Colon) 1))
    (cond (c == 44) (Read (Sign Comma) 1)
    (cond (c == 123) (Read (Sign LeftBrace) 1)
    (cond (c == 125) (Read (Sign RightBrace) 1)
    (cond (c == 46) (cond (begins_with 46 rest) (Read (Sign DotDot) 2) (Faulty (BadByte at)))
    (cond (c == 43) (Read (Sign Plus) 1) (Faulty (BadByte at))))))))

-- What the bytes at a place begin with. A comment goes from `#` up to the next LF or the end. A
-- word has all letters, digits and `_` that follow, a number that doesn't begin with 0 all digits
-- that follow. As bytes `#` is 35, LF 10 and `0` 48. At the end nothing stands.
abbrev pub scan : ℕ → List ℕ → Scan
scan at [] = Skipped 0
scan at (c ∷ rest) =
    cond (is_blank c) (Skipped 1)
    (cond (c == 35) (Skipped (prefix_len (λ b. not (b == 10)) (c ∷ rest)))
    (cond (begins_name c) (scan_word at (take_while continues_name (c ∷ rest)))
    (cond (c == 48) (Read (Number 0) 1)
    (cond (is_digit c) (scan_number at (take_while is_digit (c ∷ rest)))
    (scan_sign at c rest)))))

-- how many bytes it has
abbrev pub bytes_in : Scan → ℕ
bytes_in (Skipped n) = n
bytes_in (Read kind n) = n
bytes_in (Faulty error) = 1

-- how many bytes it takes, or why it doesn't read
abbrev pub width : Scan → Result ℕ LexError
width (Skipped n) = Ok n
width (Read kind n) = Ok n
width (Faulty error) = Err error

-- the tokens, where they read, with one before them
abbrev pub with_token : Token → Result (List Token) LexError → Result (List Token) LexError
with_token token (Ok tokens) = Ok (token ∷ tokens)
with_token token (Err error) = Err error

-- what stands at a place, and then what was read after it
abbrev pub joined : Scan → ℕ → Result (List Token) LexError → Result (List Token) LexError
joined (Skipped n) at read = read
joined (Read kind n) at read = with_token (record { kind = kind; at = at; len = n }) read
joined (Faulty error) at read = Err error

-- The tokens of the bytes from a place on, of which the first ones, `passed` of them, are of what
-- stood before.
abbrev pub tokens_from : ℕ → ℕ → List ℕ → Result (List Token) LexError
tokens_from at passed [] = Ok []
tokens_from at (suc passed) (c ∷ rest) = tokens_from (at + 1) passed rest
tokens_from at zero (c ∷ rest) =
    joined (scan at (c ∷ rest)) at (tokens_from (at + 1) (bytes_in (scan at (c ∷ rest)) - 1) rest)

-- the tokens of a text, or the error of the first that doesn't read
abbrev pub tokens_of : List ℕ → Result (List Token) LexError
tokens_of text = tokens_from 0 0 text

-- the first fault of a text, if it has one
abbrev pub fault_of : List ℕ → Option LexError
fault_of text = result_err (tokens_of text)

-- the tokens of what stands from a place of a text on
abbrev pub tokens_after : List ℕ → ℕ → Result (List Token) LexError
tokens_after text at = tokens_from at 0 (drop at text)

-- What stands for a token at a place that doesn't read: `settle`, a keyword that no network text
-- has, with all bytes from the place on.
abbrev pub mark : ℕ → ℕ → Token
mark at left = record { kind = Keyword KwSettle; at = at; len = left }

-- what stands at a place, from which so many bytes are left, and then the tokens after it
abbrev pub marked : Scan → ℕ → ℕ → List Token → List Token
marked (Skipped n) at left tokens = tokens
marked (Read kind n) at left tokens = record { kind = kind; at = at; len = n } ∷ tokens
marked (Faulty error) at left tokens = mark at left ∷ []

-- The tokens up to the first that doesn't read, and a mark in its place. As in `tokens_from`, the
-- first bytes are of what stood before.
abbrev pub marked_from : ℕ → ℕ → List ℕ → List Token
marked_from at passed [] = []
marked_from at (suc passed) (c ∷ rest) = marked_from (at + 1) passed rest
marked_from at zero (c ∷ rest) =
    marked (scan at (c ∷ rest)) at (length (c ∷ rest))
    (marked_from (at + 1) (bytes_in (scan at (c ∷ rest)) - 1) rest)

-- the tokens of what stands from a place of a text on, with a mark where one doesn't read
abbrev pub marked_after : List ℕ → ℕ → List Token
marked_after text at = marked_from at 0 (drop at text)
