-- A number that each run has, over many runs.
use Rattle.std.specs.Prelude.{◌≡◌, ℕ, ◌+◌, ◌==◌, nat_lt, min, max, fold, List, [], ◌∷◌, map, All, count_by, length, slice_get, slice_index, Some}
use Rattle.std.specs.List.{position_or_len}
use Rattle.run_survey.specs.declared.told.Spread.{Spread}

-- the least of the numbers, 0 where there is none
abbrev pub least : List ℕ → ℕ
least [] = 0
least (n ∷ numbers) = fold min n numbers

-- the greatest, likewise
abbrev pub greatest : List ℕ → ℕ
greatest numbers = fold max 0 numbers

-- of runs with these numbers, the first of which has this seed: the least and the greatest, the
-- seed of the first that has the greatest, and how many have one above 0
abbrev pub spread_of : ℕ → List ℕ → Spread
spread_of first numbers =
    record {
      least = least numbers;
      most = greatest numbers;
      seed = first + position_or_len (λ n. n == greatest numbers) numbers;
      runs = count_by (nat_lt 0) numbers;
    }

-- the numbers at this place of the lists
abbrev pub column : ℕ → List (List ℕ) → List ℕ
column place lists = map (λ (numbers : List ℕ). slice_index numbers place) lists

-- of lists that are all as long, the numbers at each place
pub record AreSpreads (first : ℕ) (lists : List (List ℕ)) (spreads : List Spread) : Type 0 where
  pub long : All (λ (numbers : List ℕ). length numbers ≡ length spreads) lists
  pub each : (place : ℕ) (s : Spread) → slice_get spreads place ≡ Some s
      → s ≡ spread_of first (column place lists)
