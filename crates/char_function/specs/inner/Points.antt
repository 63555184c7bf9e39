-- Snapshots with the codes of their results.
use Rattle.std.specs.Prelude.{ℕ, List, [], ◌++◌, map, get_or}
use Rattle.domains.specs.AllCodes.{all_codes}
use Rattle.transition_table.specs.declared.machine.Machine.{Machine}
use Rattle.transition_table.specs.Computed.{result_codes}

-- a snapshot and the codes of its results
abbrev pub point : Machine → List ℕ → List ℕ
point m s = s ++ result_codes m s

-- those of all snapshots, in their order
abbrev pub points : Machine → List (List ℕ)
points m = map (point m) (all_codes m.vars)

-- the point of this number
abbrev pub at_point : List (List ℕ) → ℕ → List ℕ
at_point points i = get_or points i []
