-- What a machine's snapshots are looked up by, beside the table of its outcomes.
use Rattle.std.specs.Prelude.{◌≡◌, ℕ, ◌+◌, ◌<◌, ◌==◌, true, false, List, map, drop, length, get_or, slice_get, slice_index, Some}
use Rattle.polis_base.specs.Lists.{upto}
use Rattle.domains.specs.Names.{is_same}
use Rattle.domains.specs.Tables.{fits, product, rank}
use Rattle.outcome_table.specs.declared.table.Results.{Results}
use Rattle.transition_table.specs.Computed.{result_codes}
use Rattle.transition_table.specs.declared.machine.Machine.{Machine}
use Rattle.table_use.specs.Use.{can_fire}
use Rattle.table_use.specs.declared.keys.Keys.{Keys}

-- how far apart snapshots stand that differ by one in the code of a variable alone
abbrev pub stride : List ℕ → ℕ → ℕ
stride vars v = product (drop (v + 1) vars)

-- for each variable
abbrev pub strides_of : List ℕ → List ℕ
strides_of vars = map (stride vars) (upto (length vars))

-- the number of a snapshot's outcome says whether a row is enabled on it, and two snapshots have
-- the same outcome where the first equal ones have one number
pub record AreKeys (m : Machine) (r : Results) (keys : Keys) : Type 0 where
  pub long : length r.numbers ≡ product m.vars
  pub fires_within : (n k : ℕ) → slice_get r.numbers n ≡ Some k → k < length keys.fires
  pub firsts_within : (n k : ℕ) → slice_get r.numbers n ≡ Some k → k < length keys.firsts
  pub fires : (s : List ℕ) (k : ℕ) → fits m.vars s ≡ true
      → slice_get r.numbers (rank m.vars s) ≡ Some k → get_or keys.fires k false ≡ can_fire m s
  pub same : (s t : List ℕ) (j k : ℕ) → fits m.vars s ≡ true → fits m.vars t ≡ true
      → slice_get r.numbers (rank m.vars s) ≡ Some j → slice_get r.numbers (rank m.vars t) ≡ Some k
      → (slice_index keys.firsts j == slice_index keys.firsts k)
      ≡ is_same (result_codes m s) (result_codes m t)
  pub strides : keys.strides ≡ strides_of m.vars
