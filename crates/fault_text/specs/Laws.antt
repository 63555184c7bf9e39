-- What follows from the definitions.
use Rattle.std.specs.Prelude.{◌≡◌, ℕ, ◌≤◌, List, length}
use Rattle.fault_text.specs.Positions.{line_of, column_of}

-- two places of one line and one column are the same
abbrev pub OnePlace : Type 0
OnePlace = (text : List ℕ) (p q : ℕ) → p ≤ length text → q ≤ length text
    → line_of text p ≡ line_of text q → column_of text p ≡ column_of text q → p ≡ q
