-- A file that fails, and that for another reason.
use Rattle.std.proofs.Common.{ℕ, List, Option}
use Rattle.polis_base.specs.Host.{Files}
use Rattle.polis_words.specs.declared.cause.Cause.{Cause}
use Rattle.polis_words.specs.declared.cause.Failure.{Failure}
use Rattle.polis_words.specs.declared.cause.Failure.TheVariants as failures
use Rattle.input_files.specs.Inputs.{NetFails, OnlyNetFails}
use Rattle.input_files.specs.Failures.{explains_nothing, FileExplained, FilesExplained, FileFails, FilesFail}
use Rattle.polis_base.proofs.WhereTold.{told_from}

-- the file fails, and that for another reason
pub file_fails : (name : List ℕ) (o : Option Files) (P Q : Files → Cause → Type 0)
    (E : Option Files → List ℕ → Cause → List ℕ → Type 0) (failure : Failure)
    → ((files : Files) (cause : Cause) → P files cause → Q files cause)
    → FileExplained name o P E failure → FileExplained name o Q E failure
file_fails name o P Q E failures.NoMemory f h = tt
file_fails name o P Q E (failures.File file cause more) f (h, explains) = (
  (
    h.0,
    told_from o (λ files. P files cause) (λ files. Q files cause) (λ files. f files cause) h.1,
    h.2,
  ),
  explains,
)

-- the one file of a command fails
pub net_explained : (name : List ℕ) (o : Option Files)
    (E : Option Files → List ℕ → Cause → List ℕ → Type 0) (failure : Failure)
    → FileExplained name o (λ files. NetFails files name) E failure
    → FilesExplained o (OnlyNetFails name) E failure
net_explained name o E failures.NoMemory h = tt
net_explained name o E (failures.File file cause more) (h, explains) = (
  (
    told_from o (λ files. NetFails files name cause) (λ files. OnlyNetFails name files file.now cause)
        (λ files k. (h.0, k)) h.1,
    h.2,
  ),
  explains,
)

pub net_alone : (name : List ℕ) (o : Option Files) (failure : Failure)
    → FileFails name o (λ files. NetFails files name) failure → FilesFail o (OnlyNetFails name) failure
net_alone name o failure h = net_explained name o explains_nothing failure h
