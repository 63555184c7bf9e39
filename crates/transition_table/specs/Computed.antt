-- A machine's outcomes, what its results depend on and its characteristic function, by computation.
-- For a machine that is deterministic these say what the relations of Transitions and Orders say.
use Rattle.std.specs.Prelude.{ℕ, Bool, true, cond, not, ◌==◌, List, [], ◌∷◌, map, length, take, drop, filter, slice_index, slice_set}
use Rattle.std.specs.List.{list_all, list_any}
use Rattle.polis_base.specs.Lists.{upto}
use Rattle.domains.specs.AllCodes.{all_codes}
use Rattle.domains.specs.Names.{is_same}
use Rattle.transition_table.specs.declared.machine.Machine.{Machine}
use Rattle.transition_table.specs.declared.row.Row.{Row}
use Rattle.transition_table.specs.declared.snapshot.Outcome.{Outcome}
use Rattle.transition_table.specs.Orders.{codes_of}
use Rattle.transition_table.specs.Transitions.{allows, outcome_of, blank}

-- the outcome of the first of the rows that is enabled on these codes, or the blank one
abbrev pub outcome_by : Machine → List Row → List ℕ → Outcome
outcome_by m [] s = blank m
outcome_by m (row ∷ rows) s =
    cond (list_all (allows s) row.conds) (outcome_of m s true row.acts) (outcome_by m rows s)

-- the codes of the results on a snapshot
abbrev pub result_codes : Machine → List ℕ → List ℕ
result_codes m s = codes_of (outcome_by m m.rows s)

-- the code of one result on a snapshot
abbrev pub result_code : Machine → ℕ → List ℕ → ℕ
result_code m y s = slice_index (result_codes m s) y

-- the codes after a snapshot's are those of its results
abbrev pub char : Machine → List ℕ → Bool
char m list = is_same (result_codes m (take (length m.vars) list)) (drop (length m.vars) list)

-- changing the variable's code on this list to this one changes the function
abbrev pub turned : (List ℕ → ℕ) → ℕ → List ℕ → ℕ → Bool
turned f v s code = not (f (slice_set s v code) == f s)

-- on some list of codes, changing the variable's code alone changes the function
abbrev pub moves : (List ℕ → ℕ) → List ℕ → ℕ → Bool
moves f sizes v =
    list_any (λ s. list_any (turned f v s) (upto (slice_index sizes v))) (all_codes sizes)

-- on some snapshot, changing the variable's code alone changes the result's
abbrev pub supports : Machine → ℕ → ℕ → Bool
supports m y v = moves (result_code m y) m.vars v

-- the variables that a result depends on, rising
abbrev pub support_of : Machine → ℕ → List ℕ
support_of m y = filter (supports m y) (upto (length m.vars))

-- those of each result
abbrev pub all_supports : Machine → List (List ℕ)
all_supports m = map (support_of m) (upto (length m.results))
