-- Pictures: rows of bytes over which texts are laid, with as many bytes for each column.
use Rattle.std.specs.Prelude.{ℕ, ◌+◌, ◌-◌, ◌*◌, ◌/◌, Bool, cond, ◌==◌, List, [], ◌∷◌, ◌++◌, flat_map, length, take, drop, replicate}
use Rattle.std.specs.List.{list_all}

-- a space
abbrev pub is_space : ℕ → Bool
is_space c = c == 32

abbrev pub spaces : ℕ → List ℕ
spaces n = replicate n 32

-- the text in the place of what stands from this place of the picture on
abbrev pub laid : List ℕ → ℕ → List ℕ → List ℕ
laid picture at text = take at picture ++ text ++ drop (at + length text) picture

-- the text laid so that its middle stands at place x
abbrev pub centred : List ℕ → ℕ → List ℕ → List ℕ
centred picture x text = laid picture (x - length text / 2) text

-- where the axis of the column of this number stands
abbrev pub axis : ℕ → ℕ → ℕ
axis width column = column * width + width / 2

-- one column, with a text on its axis
abbrev pub cell : ℕ → List ℕ → List ℕ
cell width text = centred (spaces width) (width / 2) text

-- one column beside the other, each with its text on its axis
abbrev pub cells : ℕ → List (List ℕ) → List ℕ
cells width texts = flat_map (cell width) texts

-- without the spaces at its end
abbrev pub trimmed : List ℕ → List ℕ
trimmed [] = []
trimmed (c ∷ rest) = cond (list_all is_space (c ∷ rest)) [] (c ∷ trimmed rest)
