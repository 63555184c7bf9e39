-- Lines of texts.
use Rattle.std.specs.Prelude.{ℕ, List, [], ◌∷◌, ◌++◌}

-- a text with its LF
abbrev pub line : List ℕ → List ℕ
line text = text ++ 10 ∷ []
