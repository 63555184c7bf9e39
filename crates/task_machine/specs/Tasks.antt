-- Code for the machines of a network.
use Rattle.std.specs.Prelude.{◌≡◌, ℕ, List, length, slice_get, Some, IsTrue}
use Rattle.domains.specs.Tables.{fits as fitting}
use Rattle.transition_table.specs.declared.machine.Machine.{Machine}
use Rattle.transition_table.specs.declared.network.Network.{Network}
use Rattle.transition_table.specs.Computed.{outcome_by}
use Rattle.task_code.specs.declared.instr.Instr.{Instr}
use Rattle.task_code.specs.Codes.{Exec, Computes}
use Rattle.task_machine.specs.Running.{CodeFits}

-- there is code for each machine, which fits it and gives its transition
pub record AreTasks (net : Network) (codes : List (List Instr)) : Type 0 where
  pub long : length codes ≡ length net.machines
  pub fits :
      (k : ℕ) (m : Machine) (c : List Instr)
      → slice_get net.machines k ≡ Some m
      → slice_get codes k ≡ Some c
      → CodeFits m c
  pub computes :
      (k : ℕ) (m : Machine) (c : List Instr)
      → slice_get net.machines k ≡ Some m
      → slice_get codes k ≡ Some c
      → Computes c m

-- there is code for each machine, which fits it and gives what its first enabled row gives
pub record GiveOutcomes (net : Network) (codes : List (List Instr)) : Type 0 where
  pub long : length codes ≡ length net.machines
  pub fits :
      (k : ℕ) (m : Machine) (c : List Instr)
      → slice_get net.machines k ≡ Some m
      → slice_get codes k ≡ Some c
      → CodeFits m c
  pub gives :
      (k : ℕ) (m : Machine) (c : List Instr) (s : List ℕ)
      → slice_get net.machines k ≡ Some m
      → slice_get codes k ≡ Some c
      → IsTrue (fitting m.vars s)
      → Exec m c s ≡ outcome_by m m.rows s
