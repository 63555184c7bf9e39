-- Groups of points, by their numbers, while the codes of an order are fixed one by one.
use Rattle.std.specs.Prelude.{ℕ, Bool, ◌==◌, List, slice_index, length, drop, filter, nat_lt}
use Rattle.std.specs.List.{list_all, list_any}
use Rattle.char_function.specs.inner.Points.{at_point}

-- two lists have the same codes of these variables and results
abbrev pub agrees : List ℕ → List ℕ → List ℕ → Bool
agrees items one other = list_all (λ v. slice_index one v == slice_index other v) items

-- one of the points agrees with the codes on what the order has from a place on
abbrev pub some_agrees : List (List ℕ) → List ℕ → ℕ → List ℕ → List ℕ → Bool
some_agrees points order place group codes =
    list_any (λ i. agrees (drop place order) (at_point points i) codes) group

-- those of the points that have this code
abbrev pub with_code : List (List ℕ) → ℕ → List ℕ → ℕ → List ℕ
with_code points var group code = filter (λ i. slice_index (at_point points i) var == code) group

-- numbers of points
abbrev pub is_group : List (List ℕ) → List ℕ → Bool
is_group points group = list_all (λ i. nat_lt i (length points)) group
