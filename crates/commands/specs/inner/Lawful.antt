-- What holds of each command's meaning.
use Rattle.std.specs.Prelude.{◌≡◌, ℕ, List, IsTrue}
use Rattle.polis_base.specs.Host.{Files}
use Rattle.polis_words.specs.declared.cause.Cause.{Cause}
use Rattle.polis_words.specs.declared.status.Status.{Status}
use Rattle.polis_words.specs.declared.status.Status.TheVariants.{Refused}
use Rattle.polis_words.specs.Lines.{cause_status}
use Rattle.output_files.specs.declared.product.Product.{Product}
use Rattle.commands.specs.Meanings.{Meaning}
use Rattle.input_files.specs.Failures.{is_finding}

-- A product is made of files that are accepted, and of which nothing else is found. Where a file
-- fails they aren't accepted, or that is found of them which the cause says. What is found is found
-- of accepted files, is one thing, and is one of the statuses with which the command ends.
pub record IsLawful (m : Meaning) : Type 0 where
  pub made_accepts : (files : Files) (product : Product) → m.makes files product → m.accepts files
  pub made_finds : (files : Files) (product : Product) (status : Status) → m.makes files product
      → ¬ m.finds status files
  pub refused : (files : Files) (name : List ℕ) (cause : Cause) → m.fails files name cause
      → cause_status cause ≡ Refused → ¬ m.accepts files
  pub found : (files : Files) (name : List ℕ) (cause : Cause) → m.fails files name cause
      → IsTrue (is_finding (cause_status cause)) → m.finds (cause_status cause) files
  pub found_accepts : (files : Files) (status : Status) → m.finds status files → m.accepts files
  pub found_ends : (files : Files) (status : Status) → m.finds status files
      → IsTrue (m.ends status)
  pub found_once : (files : Files) (s t : Status) → m.finds s files → m.finds t files → s ≡ t
