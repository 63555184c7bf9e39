-- Code that may be run.
use Rattle.std.specs.Prelude.{◌≡◌, ℕ, ◌<◌, List, length, slice_get, slice_index, Some}
use Rattle.transition_table.specs.declared.machine.Machine.{Machine}
use Rattle.transition_table.specs.declared.snapshot.Snapshot.{Snapshot}
use Rattle.transition_table.specs.declared.snapshot.Outcome.{Outcome}
use Rattle.transition_table.specs.Transitions.{IsSnapshot, HasWidths}
use Rattle.task_code.specs.declared.instr.Instr.{Instr}
use Rattle.task_code.specs.declared.instr.Instr.TheVariants.{Test, Set}

-- the code's tests have one target for each code of a variable of the machine, its results are the
-- machine's, and each gets one of its codes
pub record CodeFits (m : Machine) (c : List Instr) : Type 0 where
  pub tests :
      (k var : ℕ) (targets : List ℕ)
      → slice_get c k ≡ Some (Test var targets)
      → (var < length m.vars) × (length targets ≡ slice_index m.vars var)
  pub sets :
      (k result code : ℕ)
      → slice_get c k ≡ Some (Set result code)
      → result < length m.results
  pub codes :
      (k result code : ℕ)
      → slice_get c k ≡ Some (Set result code)
      → code < slice_index m.results result

-- code, a snapshot and an outcome fit one machine
pub record AreOfOne (c : List Instr) (s : Snapshot) (o : Outcome) : Type 0 where
  pub machine : Machine
  pub code : CodeFits machine c
  pub snapshot : IsSnapshot machine s
  pub widths : HasWidths machine o
