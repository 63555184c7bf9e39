-- An image by its machines' names and sizes, and by their codes.
use Rattle.std.specs.Prelude.{◌≡◌, ℕ, ◌≤◌, List, [], ◌∷◌, map, length, slice_get, Some, IsTrue}
use Rattle.polis_base.specs.Names.{is_name}
use Rattle.domains.specs.Tables.{are_sizes}
use Rattle.transition_table.specs.declared.machine.Machine.{Machine}
use Rattle.task_code.specs.declared.instr.Instr.{Instr}
use Rattle.task_image.specs.declared.image.Head.{Head}
use Rattle.task_image.specs.declared.image.ImageMachine.{ImageMachine}
use Rattle.task_image.specs.declared.limits.TheConstants.{VARS_MAX, RESULTS_MAX}

abbrev pub machine_of : Head → List Instr → ImageMachine
machine_of h c = record { name = h.name; vars = h.vars; results = h.results; code = c }

-- side by side
abbrev pub joined : List Head → List (List Instr) → List ImageMachine
joined [] codes = []
joined (h ∷ heads) [] = []
joined (h ∷ heads) (c ∷ codes) = machine_of h c ∷ joined heads codes

-- ---- of a network's machines
abbrev pub kept_head : Machine → Head
kept_head m = record { name = m.name; vars = m.vars; results = m.results }

-- a name, and sizes that an image may have
pub record IsHead (h : Head) : Type 0 where
  pub name : IsTrue (is_name h.name)
  pub few_vars : length h.vars ≤ VARS_MAX
  pub vars : IsTrue (are_sizes h.vars)
  pub some_results : 1 ≤ length h.results
  pub few_results : length h.results ≤ RESULTS_MAX
  pub results : IsTrue (are_sizes h.results)

-- those of the machines, in order
pub record AreHeads (ms : List Machine) (heads : List Head) : Type 0 where
  pub are : heads ≡ map kept_head ms
  pub each : (k : ℕ) (h : Head) → slice_get heads k ≡ Some h → IsHead h
