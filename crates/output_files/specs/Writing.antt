-- What is left where writing a product failed.
use Rattle.std.specs.Prelude.{◌≡◌, ◌⊎◌, ℕ, List, ◌∷◌, ◌++◌, take, Option}
use Rattle.std.specs.FinMap.{insert}
use Rattle.polis_base.specs.Host.{Files, Changes}
use Rattle.polis_words.specs.Lines.{write_fault_line}
use Rattle.output_files.specs.declared.product.Product.{Product}
use Rattle.output_files.specs.Saves.{Save, files_after}
use Rattle.output_files.specs.Shown.{ShowsPrefix}

-- After some of the saves the next one failed: its name has what it had or a prefix of its text,
-- and its line was shown, or a prefix of it. Nothing was saved after it.
pub record FailsAt (saves : List Save) (rose : Type 0) (before now : Option Files)
    (shown_before shown_now : Option (List ℕ)) : Type 0 where
  pub made : List Save
  pub next : Save
  pub rest : List Save
  pub split : saves ≡ made ++ next ∷ rest
  pub files : Changes before now (λ old new. (new ≡ files_after old made)
      ⊎ ((k : ℕ) × (new ≡ insert (files_after old made) next.name (take k next.text))))
  pub shown : Changes shown_before shown_now (ShowsPrefix (write_fault_line next.name) rose)

-- All saves were made, and of the text after them some prefix was shown.
pub record FailsToShow (saves : List Save) (text : List ℕ) (before now : Option Files)
    (shown_before shown_now : Option (List ℕ)) : Type 0 where
  pub files : Changes before now (λ old new. new ≡ files_after old saves)
  pub shown : Changes shown_before shown_now (λ old new. (k : ℕ) × (new ≡ old ++ take k text))

-- A save of the product failed, or after all of them the show of its text.
abbrev pub FailsToWrite : Product → Type 0 → Option Files → Option Files → Option (List ℕ)
    → Option (List ℕ) → Type 0
FailsToWrite product rose before now shown_before shown_now =
    FailsAt product.saves rose before now shown_before shown_now
    ⊎ FailsToShow product.saves product.shown before now shown_before shown_now
