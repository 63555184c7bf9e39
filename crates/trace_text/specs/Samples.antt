-- Trace texts. LF is byte 10, CR is byte 13, tab is byte 9.
use Rattle.std.specs.Prelude.{ℕ, List, [], ◌∷◌, ◌++◌, codes}
use Rattle.polis_base.specs.Lines.{line}

-- a tab before a word and a CR after it, a comment, an empty line, a line of spaces and a comment,
-- `settle`, and a last line without its LF
abbrev pub mixed : List ℕ
mixed =
    9 ∷ codes "press " ++ 13 ∷ 10 ∷ line (codes "# press") ++ line [] ++ line (codes "   # press")
    ++ line (codes "settle# wait") ++ codes "press"
