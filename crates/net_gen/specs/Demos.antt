-- The machines of a ring, as they are in its network.
use Rattle.std.specs.Prelude.{◌≡◌, ℕ, ◌+◌, ◌*◌, ◌^◌, List, [], ◌∷◌, ◌++◌, map, Some, slice_get, codes}
use Rattle.polis_base.specs.Lists.{upto}
use Rattle.transition_table.specs.samples.Parts.{gives, has_codes, state_of}
use Rattle.transition_table.specs.declared.row.Cond.{Cond}
use Rattle.transition_table.specs.declared.row.Act.{Act}
use Rattle.transition_table.specs.declared.row.Row.{Row}
use Rattle.transition_table.specs.declared.machine.Machine.{Machine}
use Rattle.transition_table.specs.declared.network.Network.{Network}
use Rattle.net_rules.specs.Networks.{IsNetworkOf}
use Rattle.polis_base.specs.Draws.{after, draw}
use Rattle.net_gen.specs.Events.{next_machine}
use Rattle.net_gen.specs.Networks.{named, count, network}

-- the conditions of a row with its actions
abbrev pub Parts : Type 0
Parts = List Cond × List Act

abbrev pub parts_of : Row → Parts
parts_of row = (row.conds, row.acts)

-- The variables are the tick, the value received and the state, with 2, 9 and 8 codes; after `go`
-- the results are the state, the value sent and the output. A value v has the code 1 + v.

-- the row for a tick alone where the state is v: the state becomes a, and b is sent
abbrev pub tick_parts : ℕ → ℕ → ℕ → Parts
tick_parts v a b = (
  has_codes 0 2 ∷ has_codes 1 1 ∷ has_codes 2 (2 ^ v) ∷ [],
  gives 1 (1 + a) ∷ gives 2 (1 + b) ∷ [],
)

-- the row for the value k + 1: the state becomes a, and k is sent
abbrev pub value_parts : ℕ → ℕ → Parts
value_parts k a = (has_codes 1 (2 ^ (k + 2)) ∷ [], gives 1 (1 + a) ∷ gives 2 (1 + k) ∷ [])

-- the row for the value 0: the state becomes a, and the environment is told
abbrev pub last_parts : ℕ → Parts
last_parts a = (has_codes 1 2 ∷ [], gives 1 (1 + a) ∷ gives 3 1 ∷ [])

abbrev pub tick_parts_at : ℕ → ℕ → Parts
tick_parts_at x v = tick_parts v (draw (after x (2 * v)) 8) (draw (after x (2 * v + 1)) 8)

abbrev pub value_parts_at : ℕ → ℕ → Parts
value_parts_at x k = value_parts k (draw (after x k) 8)

-- the rows, drawn from x
unfoldable pub rows_parts : ℕ → List Parts
rows_parts x =
    map (tick_parts_at x) (upto 8)
    ++ map (value_parts_at (after x 16)) (upto 7)
    ++ last_parts (draw (after x 23) 8) ∷ []

-- machine i of a ring of n, its priority and then its rows drawn from x
pub record IsDemoMachine (n i x : ℕ) (machine : Machine) : Type 0 where
  pub name : machine.name ≡ (named (codes "m") i).name
  pub priority : machine.priority ≡ draw x 4
  pub inputs : machine.inputs ≡ 3 * i ∷ (3 * i + 1) ∷ []
  pub outputs : machine.outputs ≡ (3 * next_machine n i + 1) ∷ (3 * i + 2) ∷ []
  pub states : machine.states ≡ state_of (codes "s") 0 0 ∷ []
  pub vars : machine.vars ≡ 2 ∷ 9 ∷ 8 ∷ []
  pub results : machine.results ≡ 2 ∷ 9 ∷ 9 ∷ 2 ∷ []
  pub rows : map parts_of machine.rows ≡ rows_parts (after x 1)

-- the machines of each seed are drawn one after the other, after the first draw
abbrev pub SeedsHaveMachines : Type 0
SeedsHaveMachines =
    (seed : ℕ) (net : Network) (i : ℕ) (machine : Machine)
    → IsNetworkOf (network seed) net
    → slice_get net.machines i ≡ Some machine
    → IsDemoMachine (count seed) i (after (after seed 1) (25 * i)) machine
