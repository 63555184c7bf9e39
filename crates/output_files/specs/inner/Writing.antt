-- What writing a product leaves, step by step.
use Rattle.std.specs.Prelude.{◌≡◌, ◌⊎◌, ℕ, List, ◌++◌, take, Option, Result, Ok, Err}
use Rattle.std.specs.FinMap.{insert}
use Rattle.polis_base.specs.Host.{Files}
use Rattle.polis_words.specs.declared.status.Status.{Status}
use Rattle.polis_words.specs.declared.status.Status.TheVariants.{WriteFault, NoMemory}
use Rattle.polis_words.specs.Lines.{write_fault_line}
use Rattle.output_files.specs.Saves.{Save}
use Rattle.output_files.specs.Shown.{ShowsPrefix}
use Rattle.output_files.specs.Writing.{FailsAt}
use Rattle.output_files.specs.Written.{no_memory_line, RunsOut}

-- what a save leaves: the text under its name, or what was there or a prefix of the text
abbrev pub SavesText : Result (Unit {0}) Status → Save → Files → Files → Type 0
SavesText (Ok done) save before now = now ≡ insert before save.name save.text
SavesText (Err status) save before now =
    (now ≡ before) ⊎ ((status ≡ WriteFault) × (k : ℕ)
    × (now ≡ insert before save.name (take k save.text)))

-- what a save under the name that failed shows: its line, or that memory ran out
abbrev pub ShowsLineOf : Status → List ℕ → Type 0 → List ℕ → List ℕ → Type 0
ShowsLineOf status name rose old new =
    ((status ≡ WriteFault) × ShowsPrefix (write_fault_line name) rose old new)
    ⊎ ((status ≡ NoMemory) × ShowsPrefix no_memory_line rose old new)

-- what the saves leave where one of them isn't made
abbrev pub StopsSaving : Status → List Save → Type 0 → Option Files → Option Files → Option (List ℕ)
    → Option (List ℕ) → Type 0
StopsSaving status saves rose before now shown_before shown_now =
    ((status ≡ WriteFault) × FailsAt saves rose before now shown_before shown_now)
    ⊎ ((status ≡ NoMemory) × RunsOut saves rose before now shown_before shown_now)

-- what showing a text shows: the text, or a prefix of it, or that memory ran out
abbrev pub ShowsText : Status → List ℕ → Status → Type 0 → List ℕ → List ℕ → Type 0
ShowsText status text end rose old new =
    ((status ≡ end) × (new ≡ old ++ text))
    ⊎ ((status ≡ WriteFault) × (k : ℕ) × (new ≡ old ++ take k text))
    ⊎ ((status ≡ NoMemory) × ShowsPrefix no_memory_line rose old new)
