-- Numbers for the outcomes of snapshots, while variables are fixed one by one.
use Rattle.std.specs.Prelude.{◌≡◌, ℕ, ◌+◌, ◌<◌, ◌≤◌, Bool, true, false, not, ◌||◌, nat_lt, List, [], ◌++◌, map, length, take, drop, get_or, slice_get, slice_index, Some}
use Rattle.std.specs.List.{list_all}
use Rattle.domains.specs.AllCodes.{all_codes}
use Rattle.domains.specs.Tables.{product}
use Rattle.polis_base.specs.Lists.{places_where}
use Rattle.transition_table.specs.Transitions.{allows, outcome_of, blank}
use Rattle.transition_table.specs.declared.machine.Machine.{Machine}
use Rattle.transition_table.specs.declared.row.Act.{Act}
use Rattle.transition_table.specs.declared.row.Cond.{Cond}
use Rattle.transition_table.specs.declared.row.Row.{Row}
use Rattle.transition_table.specs.declared.row.Source.{Source}
use Rattle.transition_table.specs.declared.row.Source.TheVariants.{Code, Input, Add}
use Rattle.transition_table.specs.Orders.{codes_of}
use Rattle.transition_table.specs.Computed.{result_codes}
use Rattle.outcome_table.specs.Outcomes.{named, are_named}
use Rattle.outcome_table.specs.declared.number.Numbered.{Numbered}

-- the condition holds, or is on a variable that isn't fixed yet
abbrev pub may_hold : List ℕ → Cond → Bool
may_hold fixed condition = not (nat_lt condition.var (length fixed)) || allows fixed condition

-- all conditions on the fixed variables hold
abbrev pub may_be_enabled : List ℕ → Row → Bool
may_be_enabled fixed row = list_all (may_hold fixed) row.conds

-- the numbers of these rows
abbrev pub rows_left : Machine → List ℕ → List ℕ
rows_left m fixed = places_where (may_be_enabled fixed) m.rows

-- all lists of codes that begin with the fixed ones
abbrev pub lists_after : List ℕ → List ℕ → List (List ℕ)
lists_after fixed sizes = map (λ codes. fixed ++ codes) (all_codes sizes)

-- the source is no variable
abbrev pub is_code : Source → Bool
is_code (Code code) = true
is_code (Input v) = false
is_code (Add k) = false

-- the action takes its code from no variable
abbrev pub is_fixed : Act → Bool
is_fixed act = is_code act.source

-- the outcome 0 is the blank one, and 1 + r that of row r, where its actions take their codes from
-- no variable
pub record BeginWithRows (m : Machine) (fixed : List Bool) (outcomes : List (List ℕ)) : Type 0 where
  pub long : length fixed ≡ length m.rows
  pub some : length m.rows + 1 ≤ length outcomes
  pub blank : get_or outcomes 0 [] ≡ codes_of (blank m)
  pub rows : (r : ℕ) (row : Row) → slice_get m.rows r ≡ Some row → slice_get fixed r ≡ Some true
      → (s : List ℕ) → get_or outcomes (1 + r) [] ≡ codes_of (outcome_of m s true row.acts)

-- the outcomes of these lists have been numbered after those before
pub record Adds (m : Machine) (old new : Numbered) (lists : List (List ℕ)) : Type 0 where
  pub kept : take (length old.outcomes) new.outcomes ≡ old.outcomes
  pub results : named new.outcomes new.numbers.items
      ≡ named old.outcomes old.numbers.items ++ map (result_codes m) lists
  pub within : are_named new.outcomes new.numbers.items

-- the number is that of the outcome of all lists of codes that begin with the fixed ones
pub record IsNumberAfter (m : Machine) (fixed : List ℕ) (outcomes : List (List ℕ)) (number : ℕ)
    : Type 0 where
  pub low : number < length outcomes
  pub gives : (rest : List ℕ) → get_or outcomes number [] ≡ result_codes m (fixed ++ rest)

-- for each variable, and after the last one, the number of lists of codes of those from it on
pub record AreCounts (vars counts : List ℕ) : Type 0 where
  pub long : length counts ≡ length vars + 1
  pub each : (v : ℕ) → v ≤ length vars → slice_index counts v ≡ product (drop v vars)

-- the outcome that is blank, and then that of each row, on these codes of a snapshot
pub record AreRowOutcomes (m : Machine) (s : List ℕ) (outcomes : List (List ℕ)) : Type 0 where
  pub long : length outcomes ≡ length m.rows + 1
  pub blank : get_or outcomes 0 [] ≡ codes_of (blank m)
  pub rows : (r : ℕ) (row : Row) → slice_get m.rows r ≡ Some row
      → get_or outcomes (1 + r) [] ≡ codes_of (outcome_of m s true row.acts)
