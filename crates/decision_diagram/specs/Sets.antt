-- Levels by the set of the variables that are fixed.
use Rattle.std.specs.Prelude.{ℕ, ◌+◌, Bool, cond, not, ◌==◌, List, [], ◌∷◌, ◌++◌, map, length, filter, slice_index, slice_set}
use Rattle.std.specs.List.{list_any}
use Rattle.polis_base.specs.Lists.{upto}
use Rattle.domains.specs.AllCodes.{all_codes}
use Rattle.decision_diagram.specs.Truths.{same_truth, different}

-- the number stands in the list
abbrev pub stands : List ℕ → ℕ → Bool
stands numbers n = list_any (λ k. k == n) numbers

-- the codes of one list where the variable is fixed, of the other elsewhere
abbrev pub taking : (ℕ → Bool) → List ℕ → List ℕ → List ℕ
taking fixed a b = map (λ v. cond (fixed v) (slice_index a v) (slice_index b v)) (upto (length b))

-- the function that arises by fixing these variables as the list has them
abbrev pub arising : (List ℕ → Bool) → List ℕ → (ℕ → Bool) → List ℕ → List Bool
arising f sizes fixed a = map (λ b. f (taking fixed a b)) (all_codes sizes)

-- another code of the variable changes its value on this list
abbrev pub turns_at : (List ℕ → Bool) → List ℕ → (ℕ → Bool) → ℕ → List ℕ → List ℕ → Bool
turns_at f sizes fixed v a b =
    list_any (λ code.
    not (same_truth (f (taking fixed a (slice_set b v code))) (f (taking fixed a b))))
    (upto (slice_index sizes v))

abbrev pub depends_on : (List ℕ → Bool) → List ℕ → (ℕ → Bool) → ℕ → List ℕ → Bool
depends_on f sizes fixed v a = list_any (turns_at f sizes fixed v a) (all_codes sizes)

-- the number of different functions that arise by fixing these variables and depend on this one; no
-- order is in it
abbrev pub set_level : (List ℕ → Bool) → List ℕ → (ℕ → Bool) → ℕ → ℕ
set_level f sizes fixed v =
    different (map (arising f sizes fixed) (filter (depends_on f sizes fixed v) (all_codes sizes)))

-- the sum over the places of an order, each with the set of the variables before it
abbrev pub sum_of_levels : (List ℕ → Bool) → List ℕ → List ℕ → List ℕ → ℕ
sum_of_levels f sizes before [] = 0
sum_of_levels f sizes before (v ∷ vs) =
    set_level f sizes (stands before) v + sum_of_levels f sizes (before ++ v ∷ []) vs
