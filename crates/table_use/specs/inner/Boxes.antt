-- Lists of codes each of which passes a test of its variable, and how many there are.
use Rattle.std.specs.Prelude.{ℕ, zero, suc, ◌+◌, ◌*◌, Bool, true, false, cond, ◌&&◌, List, [], ◌∷◌, count_by, slice_get, Option, Some, None}
use Rattle.polis_base.specs.Lists.{upto}
use Rattle.transition_table.specs.declared.machine.Machine.{Machine}
use Rattle.transition_table.specs.declared.row.Row.{Row}
use Rattle.transition_table.specs.RowCodes.{row_allows}

-- each code passes, the first being of the variable n
abbrev pub passes : (ℕ → ℕ → Bool) → ℕ → List ℕ → Bool
passes test n [] = true
passes test n (code ∷ codes) = test n code && passes test (n + 1) codes

-- how many lists of codes of variables of these sizes pass
abbrev pub passing : (ℕ → ℕ → Bool) → ℕ → List ℕ → ℕ
passing test n [] = 1
passing test n (size ∷ sizes) = count_by (test n) (upto size) * passing test (n + 1) sizes

-- how many of them have 0 as each of the first k codes
abbrev pub passing_idle : (ℕ → ℕ → Bool) → ℕ → ℕ → List ℕ → ℕ
passing_idle test zero n sizes = passing test n sizes
passing_idle test (suc k) n [] = 1
passing_idle test (suc k) n (size ∷ sizes) = cond (test n 0) (passing_idle test k (n + 1) sizes) 0

-- the row allows the code of the variable
abbrev pub allowed_by : List ℕ → Option Row → ℕ → ℕ → Bool
allowed_by vars None var code = false
allowed_by vars (Some row) var code = row_allows vars row var code

-- the row of this number does, and two rows do
abbrev pub allowed : Machine → ℕ → ℕ → ℕ → Bool
allowed m r var code = allowed_by m.vars (slice_get m.rows r) var code

abbrev pub both_allow : Machine → ℕ → ℕ → ℕ → ℕ → Bool
both_allow m r k var code = allowed m r var code && allowed m k var code
