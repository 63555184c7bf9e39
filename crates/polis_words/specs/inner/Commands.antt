-- Command lines by their first word.
use Rattle.std.specs.Prelude.{◌≡◌, ℕ, List, slice_get, Some}

-- the first word of the command line is this one
abbrev pub IsCommand : List (List ℕ) → List ℕ → Type 0
IsCommand words command = slice_get words 0 ≡ Some command
