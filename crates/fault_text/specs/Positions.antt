-- Lines and columns of a text.
use Rattle.std.specs.Prelude.{ℕ, zero, suc, ◌+◌, Bool, not, cond, ◌==◌, List, [], ◌∷◌, take, Option, None, slice_get}
use Rattle.std.specs.List.{count_by, suffix_len}

-- a byte that doesn't end a line
abbrev pub is_inner : ℕ → Bool
is_inner b = not (b == 10)

-- how many line feeds stand before a place
abbrev pub ends_before : List ℕ → ℕ → ℕ
ends_before text place = count_by (λ b. b == 10) (take place text)

-- how many bytes stand before a place and after the last line feed before it
abbrev pub passed : List ℕ → ℕ → ℕ
passed text place = suffix_len is_inner (take place text)

-- both are counted from 1
abbrev pub line_of : List ℕ → ℕ → ℕ
line_of text place = 1 + ends_before text place

abbrev pub column_of : List ℕ → ℕ → ℕ
column_of text place = 1 + passed text place

-- one byte more before the first line
abbrev pub onto_first : ℕ → List (List ℕ) → List (List ℕ)
onto_first b [] = (b ∷ []) ∷ []
onto_first b (line ∷ lines) = (b ∷ line) ∷ lines

-- the lines of a text without their line feeds, where an empty text has these
abbrev pub lines_from : List (List ℕ) → List ℕ → List (List ℕ)
lines_from empty [] = empty
lines_from empty (b ∷ bs) =
    cond (is_inner b) (onto_first b (lines_from empty bs)) ([] ∷ lines_from empty bs)

-- what follows on the last line feed is a line too, be it empty
abbrev pub lines : List ℕ → List (List ℕ)
lines = lines_from ([] ∷ [])

-- the lines that begin in a text: none begins where it ends
abbrev pub begun_lines : List ℕ → List (List ℕ)
begun_lines = lines_from []

-- the line of a number, counted from 1
abbrev pub numbered : ℕ → List (List ℕ) → Option (List ℕ)
numbered zero lines = None
numbered (suc k) lines = slice_get lines k
