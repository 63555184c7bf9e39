-- Images: names, sizes and code of machines, without their tables.
use Rattle.std.specs.Prelude.{◌≡◌, ℕ, ◌<◌, ◌≤◌, List, [], ◌∷◌, map, length, slice_get, slice_index, Some, IsTrue}
use Rattle.polis_base.specs.declared.limits.TheConstants.{MACHINES_MAX}
use Rattle.polis_base.specs.Names.{is_name}
use Rattle.domains.specs.Tables.{are_sizes}
use Rattle.transition_table.specs.declared.machine.Machine.{Machine}
use Rattle.transition_table.specs.declared.network.Network.{Network}
use Rattle.task_code.specs.declared.instr.Instr.{Instr}
use Rattle.task_code.specs.declared.instr.Instr.TheVariants.{Test, Set}
use Rattle.task_code.specs.Facts.{IsCode}
use Rattle.task_image.specs.declared.image.Head.{Head}
use Rattle.task_image.specs.declared.image.ImageMachine.{ImageMachine}
use Rattle.task_image.specs.declared.limits.TheConstants.{VARS_MAX, RESULTS_MAX}

-- The code is of variables and results of these sizes: a test has one target for each code of a
-- variable, and a set gives a result one of its codes.
pub record IsCodeOf (vars results : List ℕ) (c : List Instr) : Type 0 where
  pub code : IsCode c
  pub tests :
      (k var : ℕ) (targets : List ℕ)
      → slice_get c k ≡ Some (Test var targets)
      → (var < length vars) × (length targets ≡ slice_index vars var)
  pub sets :
      (k result code : ℕ)
      → slice_get c k ≡ Some (Set result code)
      → (result < length results) × (code < slice_index results result)

-- a name, 1 to 24 variables and 1 to 25 results of 1 to 33 codes each, and code of them
pub record IsImageMachine (m : ImageMachine) : Type 0 where
  pub name : IsTrue (is_name m.name)
  pub some_vars : 1 ≤ length m.vars
  pub few_vars : length m.vars ≤ VARS_MAX
  pub vars : IsTrue (are_sizes m.vars)
  pub some_results : 1 ≤ length m.results
  pub few_results : length m.results ≤ RESULTS_MAX
  pub results : IsTrue (are_sizes m.results)
  pub code : IsCodeOf m.vars m.results m.code

-- 1 to 64 machines
pub record IsImage (i : List ImageMachine) : Type 0 where
  pub some : 1 ≤ length i
  pub few : length i ≤ MACHINES_MAX
  pub each : (k : ℕ) (m : ImageMachine) → slice_get i k ≡ Some m → IsImageMachine m

-- the name and the sizes of a machine
abbrev pub head_of : ImageMachine → Head
head_of m = record { name = m.name; vars = m.vars; results = m.results }

-- the code of each machine, in order
abbrev pub codes_of : List ImageMachine → List (List Instr)
codes_of i = map (λ m. m.code) i

-- what is kept of a machine, with this code
abbrev pub kept : Machine → List Instr → ImageMachine
kept m c = record { name = m.name; vars = m.vars; results = m.results; code = c }

-- machines and their codes, side by side
abbrev pub image_of : List Machine → List (List Instr) → List ImageMachine
image_of [] codes = []
image_of (m ∷ ms) [] = []
image_of (m ∷ ms) (c ∷ codes) = kept m c ∷ image_of ms codes

-- There is a machine; each has an input, and there is code of its variables and results for it.
pub record AreStorable (net : Network) (given : List (List Instr)) : Type 0 where
  pub some : 1 ≤ length net.machines
  pub long : length given ≡ length net.machines
  pub inputs : (k : ℕ) (m : Machine) → slice_get net.machines k ≡ Some m → 1 ≤ length m.inputs
  pub codes :
      (k : ℕ) (m : Machine) (c : List Instr)
      → slice_get net.machines k ≡ Some m
      → slice_get given k ≡ Some c
      → IsCodeOf m.vars m.results c
