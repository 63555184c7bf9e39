-- How many members the sets of a list have together.
use Rattle.std.proofs.Common.{◌≡◌, ℕ, ◌+◌, ◌-◌, ◌≤◌, List, length, get_or, slice_get, Some, sym, ap, subst, arith}
use Rattle.std.specs.Prelude.{slice_set}
use Rattle.std.specs.List.{sum_by}
use Rattle.std.proofs.lemmas.List.Sums.{get_or-le-sum_by, sum_by-le, sum_by-set}
use Rattle.std.proofs.lemmas.Option.{get_or_from_slice_get, slice_get_within}
use Rattle.run_shuffle.specs.inner.Ways.{how_many}
use Rattle.run_shuffle.proofs.MembersOfSets.{members_few}

pub rows_few : (rows : List ℕ) (owed : ℕ) → length rows ≤ 64 → owed ≡ sum_by how_many rows
    → owed ≤ 4096
rows_few rows owed few sum =
    let most = sum_by-le how_many 64 rows (λ k d below. members_few (get_or rows k d)) in
    omega (arith, most, few, sum)

-- one set has at most as many as all
pub row_within : (rows : List ℕ) (s row old owed : ℕ) → slice_get rows s ≡ Some row
    → old ≡ how_many row → owed ≡ sum_by how_many rows → old ≤ owed
row_within rows s row old owed at is sum =
    let most = get_or-le-sum_by how_many rows s 0 (slice_get_within rows s row at) in
    let same : get_or rows s 0 ≡ row = get_or_from_slice_get rows s row 0 at in
    subst (λ k. old ≤ k) (sym sum)
    (subst (λ k. k ≤ sum_by how_many rows) (sym is)
    (subst (λ w. how_many w ≤ sum_by how_many rows) same most))

-- another in its place
pub row_replaced : (rows : List ℕ) (s row old owed new other : ℕ) → slice_get rows s ≡ Some row
    → old ≡ how_many row → owed ≡ sum_by how_many rows → new ≡ how_many other
    → owed - old + new ≡ sum_by how_many (slice_set rows s other)
row_replaced rows s row old owed new other at is sum more =
    let inside = slice_get_within rows s row at in
    let step = sum_by-set how_many rows s other 0 inside in
    let same = ap how_many (get_or_from_slice_get rows s row 0 at) in
    let within = row_within rows s row old owed at is sum in
    omega (arith, step, same, is, sum, more, within)
