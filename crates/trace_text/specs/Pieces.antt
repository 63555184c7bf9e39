-- Lines and words of a text.
use Rattle.std.specs.Prelude.{ℕ, Bool, not, ◌||◌, ◌==◌, List, [], ◌∷◌, filter}
use Rattle.std.specs.List.{take_while}
use Rattle.polis_base.specs.Pieces.{with_byte, is_nonempty}

-- the pieces that the bytes which pass end; a last piece may lack its end, and no bytes have no
-- piece
abbrev pub runs : (ℕ → Bool) → List ℕ → List (List ℕ)
runs ends [] = []
runs ends (c ∷ rest) = with_byte (ends c) c (runs ends rest)

-- LF
abbrev pub ends_line : ℕ → Bool
ends_line c = c == 10

-- space, tab and CR
abbrev pub ends_word : ℕ → Bool
ends_word c = c == 32 || c == 9 || c == 13

-- `#`
abbrev pub begins_comment : ℕ → Bool
begins_comment c = c == 35

-- the lines of a text
abbrev pub trace_lines : List ℕ → List (List ℕ)
trace_lines text = runs ends_line text

-- a line up to its first `#`
abbrev pub without_comment : List ℕ → List ℕ
without_comment line = take_while (λ c. not (begins_comment c)) line

-- the longest runs of bytes other than space, tab and CR
abbrev pub trace_words : List ℕ → List (List ℕ)
trace_words line = filter is_nonempty (runs ends_word line)
