-- What making a product gives, whatever the command.
use Rattle.std.specs.Prelude.{◌≡◌, ◌⊎◌, ℕ, true, List, Option, Result, Ok, Err, IsTrue}
use Rattle.polis_base.specs.Host.{Files, WhereTold}
use Rattle.polis_words.specs.declared.cause.Cause.{Cause}
use Rattle.polis_words.specs.declared.cause.Failure.{Failure}
use Rattle.polis_words.specs.declared.status.Status.TheVariants.{Illegal}
use Rattle.polis_words.specs.Lines.{cause_status}
use Rattle.output_files.specs.declared.product.Product.{Product}
use Rattle.output_files.specs.Ends.{end_status}
use Rattle.output_files.specs.Saves.{AreApart}
use Rattle.commands.specs.Meanings.{Meaning, MayEnd}
use Rattle.input_files.specs.Failures.{is_failure, IfExplained}

-- the command fails so of these files
abbrev pub FailsAs : Meaning → Files → Failure → Type 0
FailsAs m files failure = IfExplained failure (λ name cause more. m.fails files name cause)

-- the product is one that the command makes of the files, where they are told; no two of its texts
-- have one name, and it ends the command with one of its statuses
pub record IsMadeProduct (m : Meaning) (told : Option Files) (product : Product) : Type 0 where
  pub makes : WhereTold told (λ files. m.makes files product)
  pub apart : AreApart product.saves
  pub ends : IsTrue (m.ends (end_status product.end))

-- the failure is one of the command, of the files where they are told, and so is what explains it
abbrev pub IsMadeFailure : Meaning → Option Files → Failure → Type 0
IsMadeFailure m told failure = IfExplained failure (λ name cause more.
    WhereTold told (λ files. m.fails files name cause) × MayEnd m (cause_status cause)
    × m.explains told name cause more)

-- what the command makes of the files, or why it makes nothing
abbrev pub IsMade : Meaning → Option Files → Result Product Failure → Type 0
IsMade m told (Ok product) = IsMadeProduct m told product
IsMade m told (Err failure) = IsMadeFailure m told failure

-- one of them fails, or the journal isn't legal
abbrev pub JudgingExplained : Option Files → (Files → List ℕ → Cause → Type 0)
    → (Option Files → List ℕ → Cause → List ℕ → Type 0) → Failure → Type 0
JudgingExplained told P E failure = IfExplained failure (λ name cause more.
    (WhereTold told (λ files. P files name cause)
    × (IsTrue (is_failure true (cause_status cause)) ⊎ (cause_status cause ≡ Illegal)))
    × E told name cause more)
