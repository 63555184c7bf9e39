-- What is known of the snapshots that a machine met.
use Rattle.std.specs.Prelude.{◌≡◌, ℕ, suc, ◌<◌, Bool, true, List, map, length, slice_get, Some}
use Rattle.std.specs.List.{filter}
use Rattle.polis_base.specs.Lists.{upto}
use Rattle.domains.specs.Tables.{fits, product, rank}
use Rattle.outcome_table.specs.declared.table.Results.{Results}
use Rattle.transition_table.specs.declared.machine.Machine.{Machine}
use Rattle.transition_table.specs.declared.network.Network.{Network}
use Rattle.table_use.specs.Keys.{AreKeys}
use Rattle.table_use.specs.Use.{enables, is_jammed, is_unused}
use Rattle.table_use.specs.declared.memo.Memo.{Memo}
use Rattle.table_use.specs.declared.memo.Met.{Met}

-- the numbers of the rows that are enabled, rising
abbrev pub enabled_rows : Machine → List ℕ → List ℕ
enabled_rows m s = filter (λ r. enables m r s) (upto (length m.rows))

-- for each input whether it is unused
abbrev pub unused_inputs : Machine → List ℕ → List Bool
unused_inputs m s = map (λ i. is_unused m i s) (upto (length m.inputs))

-- this is so of the snapshot
pub record IsMet (m : Machine) (s : List ℕ) (met : Met) : Type 0 where
  pub jammed : met.jammed ≡ is_jammed m s
  pub rows : met.rows ≡ enabled_rows m s
  pub unused : met.unused ≡ unused_inputs m s

-- what stands at this place is so of the snapshot
pub record StandsMet (m : Machine) (s : List ℕ) (known : List Met) (k : ℕ) : Type 0 where
  pub low : k < length known
  pub met : (x : Met) → slice_get known k ≡ Some x → IsMet m s x

-- under the number of each snapshot stands 0, or one more than such a place
pub record IsMemo (m : Machine) (r : Results) (memo : Memo) : Type 0 where
  pub keys : AreKeys m r memo.keys
  pub long : length memo.places ≡ product m.vars
  pub each : (s : List ℕ) (k : ℕ) → fits m.vars s ≡ true
      → slice_get memo.places (rank m.vars s) ≡ Some (suc k) → StandsMet m s memo.known k

-- one for each machine, by number, beside the table of its outcomes
pub record AreMemos (net : Network) (tables : List Results) (memos : List Memo) : Type 0 where
  pub long : length memos ≡ length net.machines
  pub each : (k : ℕ) (m : Machine) (memo : Memo) → slice_get net.machines k ≡ Some m
      → slice_get memos k ≡ Some memo → (r : Results) → slice_get tables k ≡ Some r
      → IsMemo m r memo
