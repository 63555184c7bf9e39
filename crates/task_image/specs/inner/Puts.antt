-- Putting bytes at the end of others.
use Rattle.std.specs.Prelude.{◌≡◌, ℕ, ◌<◌, ◌≤◌, ◌^◌, List, ◌++◌, length, slice_get, Some, Result, Ok, Err, ⊤}
use Rattle.polis_base.specs.declared.limits.TheConstants.{LONG_FILE_MAX}
use Rattle.task_code.specs.declared.instr.Instr.{Instr}
use Rattle.task_code.specs.declared.instr.Instr.TheVariants.{Test, Set, Goto, Halt}
use Rattle.task_image.specs.declared.fault.EncodeError.{EncodeError}
use Rattle.task_image.specs.declared.fault.EncodeError.TheVariants.{TooLong, NoMemory}
use Rattle.task_image.specs.declared.image.ImageMachine.{ImageMachine}
use Rattle.task_image.specs.inner.Pieces.{image_bytes}

-- what the instruction names has a byte, and its targets four
abbrev pub HasBytes : Instr → Type 0
HasBytes Halt = ⊤
HasBytes (Test var targets) =
    (var < 256) × ((j target : ℕ) → slice_get targets j ≡ Some target → target < 2 ^ 32)
HasBytes (Set result code) = result < 256
HasBytes (Goto target) = target < 2 ^ 32

-- as many as there may be, with these at the end; or they would be more
abbrev pub Writes : Result (Unit {0}) EncodeError → List ℕ → List ℕ → List ℕ → Type 0
Writes (Ok done) old new more = (new ≡ old ++ more) × (length new ≤ LONG_FILE_MAX)
Writes (Err TooLong) old new more = LONG_FILE_MAX < length (old ++ more)
Writes (Err NoMemory) old new more = ⊤

-- the image's bytes, piece by piece, or they would be too many
abbrev pub Written : List ImageMachine → Result (List ℕ) EncodeError → Type 0
Written i (Ok bytes) = (bytes ≡ image_bytes i) × (length bytes ≤ LONG_FILE_MAX)
Written i (Err TooLong) = LONG_FILE_MAX < length (image_bytes i)
Written i (Err NoMemory) = ⊤
