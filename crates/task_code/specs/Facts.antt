-- What code keeps.
use Rattle.std.specs.Prelude.{◌≡◌, ℕ, suc, ◌+◌, ◌<◌, ◌≤◌, List, [], ◌∷◌, length, slice_get, slice_index, filter_map, Contains, Option, Some, None, IsTrue, ⊤}
use Rattle.transition_table.specs.NetworkFacts.{are_different}
use Rattle.task_code.specs.declared.limits.TheConstants.{CODE_MAX}
use Rattle.task_code.specs.declared.instr.Instr.{Instr}
use Rattle.task_code.specs.declared.instr.Instr.TheVariants.{Test, Set, Goto, Halt}

-- Of the instruction at place k of so many: a test has a target, and each target stands after it
-- and within.
abbrev pub FitsAt : ℕ → ℕ → Instr → Type 0
FitsAt count k (Test var targets) =
    (0 < length targets)
    × ((j : ℕ) → j < length targets → (k < slice_index targets j) × (slice_index targets j < count))
FitsAt count k (Set result code) = ⊤
FitsAt count k (Goto target) = (k < target) × (target < count)
FitsAt count k Halt = ⊤

-- There are no more instructions than the limit, the last one is a halt, and each target stands
-- after its instruction and within the code.
pub record IsCode (c : List Instr) : Type 0 where
  pub some : 0 < length c
  pub few : length c ≤ CODE_MAX
  pub last : (k : ℕ) → k + 1 ≡ length c → slice_get c k ≡ Some Halt
  pub each : (k : ℕ) (i : Instr) → slice_get c k ≡ Some i → FitsAt (length c) k i

-- ---- paths
-- where one may go on from the instruction at place k
abbrev pub goes_on : ℕ → Option Instr → List ℕ
goes_on k None = []
goes_on k (Some (Test var targets)) = targets
goes_on k (Some (Set result code)) = suc k ∷ []
goes_on k (Some (Goto target)) = target ∷ []
goes_on k (Some Halt) = []

-- each place of the path is one to which the one before it may go on
abbrev pub IsCodePath : List Instr → List ℕ → Type 0
IsCodePath c [] = ⊤
IsCodePath c (k ∷ []) = ⊤
IsCodePath c (k ∷ j ∷ path) = Contains (goes_on k (slice_get c k)) j × IsCodePath c (j ∷ path)

abbrev pub tested_at : Option Instr → Option ℕ
tested_at None = None
tested_at (Some (Test var targets)) = Some var
tested_at (Some (Set result code)) = None
tested_at (Some (Goto target)) = None
tested_at (Some Halt) = None

-- the variables that a path tests
abbrev pub code_tests : List Instr → List ℕ → List ℕ
code_tests c path = filter_map (λ k. tested_at (slice_get c k)) path

-- no path from instruction 0 tests a variable twice
abbrev pub OnceCode : List Instr → Type 0
OnceCode c = (path : List ℕ) → IsCodePath c (0 ∷ path)
    → IsTrue (are_different (code_tests c (0 ∷ path)))
