-- What a machine does on each of its snapshots.
use Rattle.std.specs.Prelude.{◌≡◌, ℕ, ◌<◌, nat_lt, List, [], map, length, get_or, slice_index, IsTrue}
use Rattle.std.specs.List.{list_all}
use Rattle.domains.specs.AllCodes.{all_codes}
use Rattle.transition_table.specs.declared.machine.Machine.{Machine}
use Rattle.transition_table.specs.Computed.{result_codes}
use Rattle.outcome_table.specs.declared.table.Results.{Results}
use Rattle.outcome_table.specs.declared.table.Table.{Table}

-- the codes of one variable
abbrev pub column : ℕ → List (List ℕ) → List ℕ
column v lists = map (λ codes. slice_index codes v) lists

-- for each variable its codes on all lists of codes, in their order
pub record AreColumns (vars : List ℕ) (columns : List (List ℕ)) : Type 0 where
  pub wide : length columns ≡ length vars
  pub each : (v : ℕ) → v < length vars → get_or columns v [] ≡ column v (all_codes vars)

-- the outcomes of these numbers
abbrev pub named : List (List ℕ) → List ℕ → List (List ℕ)
named outcomes numbers = map (λ k. get_or outcomes k []) numbers

-- each number is that of an outcome
abbrev pub are_named : List (List ℕ) → List ℕ → Type 0
are_named outcomes numbers = IsTrue (list_all (λ k. nat_lt k (length outcomes)) numbers)

-- for each of the machine's snapshots the codes of its results
pub record AreResultsOf (m : Machine) (r : Results) : Type 0 where
  pub results : named r.outcomes r.numbers ≡ map (result_codes m) (all_codes m.vars)
  pub within : are_named r.outcomes r.numbers

-- the snapshots of the machine by their variables, and for each of them the codes of its results
pub record IsTableOf (m : Machine) (t : Table) : Type 0 where
  pub codes : AreColumns m.vars t.codes
  pub results : named t.outcomes t.numbers ≡ map (result_codes m) (all_codes m.vars)
  pub within : are_named t.outcomes t.numbers
