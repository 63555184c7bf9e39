-- A machine that was made of its parts.
use Rattle.std.specs.Prelude.{◌≡◌, ℕ, List}
use Rattle.transition_table.specs.declared.decl.StateDecl.{StateDecl}
use Rattle.transition_table.specs.declared.machine.Machine.{Machine}
use Rattle.transition_table.specs.declared.row.Row.{Row}

-- of its name and its number among the priorities, the events that it reads and emits, its state
-- variables, the sizes of its variables and of its results, and its rows
pub record IsBuilt (m : Machine) (text : List ℕ) (number : ℕ) (reads emits : List ℕ)
    (kept : List StateDecl) (sizes result_sizes : List ℕ) (table : List Row) : Type 0 where
  pub name : m.name ≡ text
  pub priority : m.priority ≡ number
  pub inputs : m.inputs ≡ reads
  pub outputs : m.outputs ≡ emits
  pub states : m.states ≡ kept
  pub vars : m.vars ≡ sizes
  pub results : m.results ≡ result_sizes
  pub rows : m.rows ≡ table
