-- How much is said of a file that is refused.
use Rattle.std.specs.Prelude.{◌≡◌, ℕ, List, Option, Result, Ok, Err, ⊤}
use Rattle.polis_base.specs.Host.{Files}
use Rattle.polis_base.specs.declared.NoMemory.{NoMemory}
use Rattle.polis_words.specs.declared.cause.Cause.{Cause}
use Rattle.polis_words.specs.declared.cause.Failure.{Failure}
use Rattle.polis_words.specs.declared.cause.Failure.TheVariants as failures
use Rattle.input_files.specs.declared.load.Detail.{Detail}
use Rattle.input_files.specs.declared.load.Detail.TheVariants as details
use Rattle.polis_words.specs.Replay.{ReplayWords}
use Rattle.input_files.specs.Explanations.{ExplainsFile, ExplainsReplay}
use Rattle.input_files.specs.Failures.{explains_nothing}

-- what explains that a file of at most so many bytes is refused, where so much is said of it:
-- nothing, or what explains the cause
abbrev pub explains_in : Detail → ℕ → Option Files → List ℕ → Cause → List ℕ → Type 0
explains_in details.Cause max = explains_nothing
explains_in details.Explained max = ExplainsFile max

-- the same of the three files of a replay
abbrev pub explains_replay : Detail → ReplayWords → Option Files → List ℕ → Cause → List ℕ
    → Type 0
explains_replay details.Cause replay = explains_nothing
explains_replay details.Explained replay = ExplainsReplay replay

-- the failure is that of the file of this name for this cause, with this explanation; where memory
-- ran out for that, it says so
abbrev pub IsFailureOf : List ℕ → Cause → Result (List ℕ) NoMemory → Failure → Type 0
IsFailureOf name cause (Ok more) failures.NoMemory = ⊥
IsFailureOf name cause (Ok more) (failures.File file why shown) =
    (file.now ≡ name) × (why ≡ cause) × (shown ≡ more)
IsFailureOf name cause (Err ran_out) failures.NoMemory = ⊤
IsFailureOf name cause (Err ran_out) (failures.File file why shown) = ⊥
