-- The pieces of a text that a byte, the mark, parts.
use Rattle.std.specs.Prelude.{ℕ, Bool, true, false, not, ◌==◌, List, [], ◌∷◌, Option, Some, None}
use Rattle.std.specs.List.{list_all}

-- a byte before pieces: a mark ends an empty piece, and any other is the first byte of the first
-- piece
abbrev pub with_byte : Bool → ℕ → List (List ℕ) → List (List ℕ)
with_byte true c pieces = [] ∷ pieces
with_byte false c [] = (c ∷ []) ∷ []
with_byte false c (piece ∷ pieces) = (c ∷ piece) ∷ pieces

-- what stands before the first mark, between each two, and after the last: one piece more than
-- there are marks
abbrev pub pieces : ℕ → List ℕ → List (List ℕ)
pieces mark [] = [] ∷ []
pieces mark (c ∷ rest) = with_byte (c == mark) c (pieces mark rest)

-- no byte of the text is the mark
abbrev pub lacks : ℕ → List ℕ → Bool
lacks mark text = list_all (λ c. not (c == mark)) text

-- the pieces of what is left, none at the end
abbrev pub left : ℕ → Option (List ℕ) → List (List ℕ)
left mark None = []
left mark (Some text) = pieces mark text

abbrev pub is_nonempty : List ℕ → Bool
is_nonempty [] = false
is_nonempty (c ∷ rest) = true
