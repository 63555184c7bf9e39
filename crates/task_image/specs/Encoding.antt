-- What encoding answers.
use Rattle.std.specs.Prelude.{ℕ, ◌<◌, ◌≤◌, List, length, Result, Ok, Err, ⊤}
use Rattle.polis_base.specs.declared.limits.TheConstants.{LONG_FILE_MAX}
use Rattle.task_image.specs.declared.fault.EncodeError.{EncodeError}
use Rattle.task_image.specs.declared.fault.EncodeError.TheVariants.{TooLong, NoMemory}
use Rattle.task_image.specs.declared.image.ImageMachine.{ImageMachine}
use Rattle.task_image.specs.Decoding.{AreBytesOf}
use Rattle.task_image.specs.Fields.{ImageBytes}

-- Ok where the image's bytes are no more than a file may have, with these bytes; TooLong where they
-- are more; running out of memory is free
abbrev pub Encodes : List ImageMachine → Result (List ℕ) EncodeError → Type 0
Encodes i (Ok bytes) = AreBytesOf i bytes × (length bytes ≤ LONG_FILE_MAX)
Encodes i (Err TooLong) = LONG_FILE_MAX < length (ImageBytes i)
Encodes i (Err NoMemory) = ⊤
