-- How many different functions arise where variables are fixed in an order.
use Rattle.std.specs.Prelude.{ℕ, ◌+◌, Bool, not, List, [], ◌∷◌, ◌++◌, map, length, filter, slice_index}
use Rattle.std.specs.List.{list_any}
use Rattle.polis_base.specs.Lists.{upto}
use Rattle.domains.specs.Orders.{place}
use Rattle.domains.specs.AllCodes.{all_codes}
use Rattle.decision_diagram.specs.Truths.{same_truths, different}

-- codes that stand in the order's order, listed by variable
abbrev pub by_variable : List ℕ → List ℕ → List ℕ
by_variable order codes = map (λ v. slice_index codes (place order v)) (upto (length order))

-- the function that arises by fixing the codes of a prefix, as its values over all codes of the
-- variables after it
abbrev pub truths : (List ℕ → Bool) → List ℕ → List ℕ → List Bool
truths f rest prefix = map (λ codes. f (prefix ++ codes)) (all_codes rest)

-- with this code of the next variable it is another function of those after than with the code 0
abbrev pub turns : (List ℕ → Bool) → List ℕ → List ℕ → ℕ → Bool
turns f rest prefix code =
    not (same_truths (truths f rest (prefix ++ code ∷ [])) (truths f rest (prefix ++ 0 ∷ [])))

-- it depends on the next variable
abbrev pub depends : (List ℕ → Bool) → ℕ → List ℕ → List ℕ → Bool
depends f size rest prefix = list_any (turns f rest prefix) (upto size)

-- the number of different functions that arise by fixing the variables before and depend on the
-- next one
abbrev pub level : (List ℕ → Bool) → List ℕ → ℕ → List ℕ → ℕ
level f before size rest =
    different (map (truths f (size ∷ rest)) (filter (depends f size rest) (all_codes before)))

abbrev pub levels : (List ℕ → Bool) → List ℕ → List ℕ → ℕ
levels f before [] = 0
levels f before (size ∷ rest) = level f before size rest + levels f (before ++ size ∷ []) rest

-- the sum over the places of the order
abbrev pub size_along : (List ℕ → Bool) → List ℕ → List ℕ → ℕ
size_along f sizes order =
    levels (λ codes. f (by_variable order codes)) [] (map (slice_index sizes) order)
