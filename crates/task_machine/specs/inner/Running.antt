-- Code that may be run.
use Rattle.std.specs.Prelude.{ℕ, ◌+◌, ◌<◌, List, length, slice_index, ⊤}
use Rattle.task_code.specs.declared.instr.Instr.{Instr}
use Rattle.task_code.specs.declared.instr.Instr.TheVariants.{Test, Set, Goto, Halt}

-- the instruction at place k of so many, on the codes of a snapshot, with so many results
abbrev pub MayRun : ℕ → List ℕ → ℕ → ℕ → Instr → Type 0
MayRun count s results k (Test var targets) =
    (var < length s) × (slice_index s var < length targets)
    × (k < slice_index targets (slice_index s var))
    × (slice_index targets (slice_index s var) < count)
MayRun count s results k (Set result code) = (result < results) × (k + 1 < count)
MayRun count s results k (Goto target) = (k < target) × (target < count)
MayRun count s results k Halt = ⊤
