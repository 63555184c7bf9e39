-- How many lists of truth values are different.
use Rattle.std.specs.Prelude.{ℕ, ◌+◌, Bool, true, false, cond, not, List, [], ◌∷◌}
use Rattle.std.specs.List.{list_any}
use Rattle.std.specs.Cmp.Lexicographic.{pointwise}

abbrev pub same_truth : Bool → Bool → Bool
same_truth true b = b
same_truth false b = not b

-- the two functions have the same values
abbrev pub same_truths : List Bool → List Bool → Bool
same_truths = pointwise same_truth

-- how many different functions there are among these
abbrev pub different : List (List Bool) → ℕ
different [] = 0
different (f ∷ fs) = cond (list_any (same_truths f) fs) 0 1 + different fs
