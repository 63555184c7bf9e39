-- Which file fails and why, and what explains it.
use Rattle.std.specs.Prelude.{◌≡◌, ◌⊎◌, ℕ, Bool, true, false, List, [], Option, IsTrue, ⊤}
use Rattle.polis_base.specs.Host.{Files, WhereTold}
use Rattle.polis_words.specs.declared.cause.Cause.{Cause}
use Rattle.polis_words.specs.declared.cause.Failure.{Failure}
use Rattle.polis_words.specs.declared.cause.Failure.TheVariants as failures
use Rattle.polis_words.specs.declared.status.Status.{Status}
use Rattle.polis_words.specs.declared.status.Status.TheVariants.{ReadFault, Refused, WriteFault, NoMemory, Illegal, Differ}
use Rattle.polis_words.specs.Lines.{cause_status}

-- the status says what was found of files that are accepted
abbrev pub is_finding : Status → Bool
is_finding Illegal = true
is_finding Differ = true
is_finding other = false

-- a status of a failure of a command that reads files, or of one that reads none
abbrev pub is_failure : Bool → Status → Bool
is_failure reads WriteFault = true
is_failure reads NoMemory = true
is_failure reads ReadFault = reads
is_failure reads Refused = reads
is_failure reads other = false

-- nothing is shown after the line of a cause
abbrev pub explains_nothing : Option Files → List ℕ → Cause → List ℕ → Type 0
explains_nothing told name cause more = more ≡ []

-- P of the name of the file that failed, of why, and of what explains it, unless memory ran out
abbrev pub IfExplained : Failure → (List ℕ → Cause → List ℕ → Type 0) → Type 0
IfExplained failures.NoMemory P = ⊤
IfExplained (failures.File name cause more) P = P name.now cause more

-- the file that failed has one of these two names
abbrev pub NamesOneOf : List ℕ → List ℕ → Failure → Type 0
NamesOneOf first second failure =
    IfExplained failure (λ name cause more. (name ≡ first) ⊎ (name ≡ second))

-- the file of this name fails, by what is told, nothing was found of files that are accepted, and E
-- is what is said of what explains it
abbrev pub FileExplained : List ℕ → Option Files → (Files → Cause → Type 0)
    → (Option Files → List ℕ → Cause → List ℕ → Type 0) → Failure → Type 0
FileExplained name told P E failure = IfExplained failure (λ file cause more. ((file ≡ name)
    × WhereTold told (λ files. P files cause) × IsTrue (is_failure true (cause_status cause)))
    × E told file cause more)

-- one of several files fails so
abbrev pub FilesExplained : Option Files → (Files → List ℕ → Cause → Type 0)
    → (Option Files → List ℕ → Cause → List ℕ → Type 0) → Failure → Type 0
FilesExplained told P E failure = IfExplained failure (λ name cause more.
    (WhereTold told (λ files. P files name cause)
    × IsTrue (is_failure true (cause_status cause)))
    × E told name cause more)

-- the same two, where nothing explains it
abbrev pub FileFails : List ℕ → Option Files → (Files → Cause → Type 0) → Failure → Type 0
FileFails name told P failure = FileExplained name told P explains_nothing failure

abbrev pub FilesFail : Option Files → (Files → List ℕ → Cause → Type 0) → Failure → Type 0
FilesFail told P failure = FilesExplained told P explains_nothing failure
