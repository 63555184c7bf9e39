-- What writing a product, and showing why there is none, leave of a host.
use Rattle.std.specs.Prelude.{◌≡◌, ◌⊎◌, ◌≤◌, ℕ, List, ◌++◌, Option, IsTrue, codes}
use Rattle.polis_base.specs.Host.{Files, Changes, Rose}
use Rattle.polis_base.specs.Lines.{line}
use Rattle.polis_base.specs.declared.host.Host.{Ghosts}
use Rattle.polis_words.specs.declared.cause.Failure.{Failure}
use Rattle.polis_words.specs.declared.status.Status.{Status}
use Rattle.polis_words.specs.declared.status.Status.TheVariants.{WriteFault, NoMemory}
use Rattle.polis_words.specs.Lines.{status_of, failure_text}
use Rattle.output_files.specs.declared.product.Product.{Product}
use Rattle.output_files.specs.Ends.{end_status, is_end}
use Rattle.output_files.specs.Saves.{Save, files_after, MadeSome}
use Rattle.output_files.specs.Shown.{ShowsPrefix}
use Rattle.output_files.specs.Writing.{FailsToWrite}

abbrev pub no_memory_line : List ℕ
no_memory_line = line (codes "no memory")

-- the status of a failure and its text, or where memory runs out those of that
abbrev pub FailsWith : Failure → Status → List ℕ → Type 0
FailsWith failure status text =
    ((status ≡ status_of failure) × (text ≡ failure_text failure))
    ⊎ ((status ≡ NoMemory) × (text ≡ no_memory_line))

-- All saves were made and the text was shown.
pub record WritesAll (product : Product) (before now : Option Files)
    (shown_before shown_now : Option (List ℕ)) : Type 0 where
  pub files : Changes before now (λ old new. new ≡ files_after old product.saves)
  pub shown : Changes shown_before shown_now (λ old new. new ≡ old ++ product.shown)

-- Memory ran out: some of the saves were made, from the first on, and that it ran out was shown.
pub record RunsOut (saves : List Save) (rose : Type 0) (before now : Option Files)
    (shown_before shown_now : Option (List ℕ)) : Type 0 where
  pub files : Changes before now (MadeSome saves)
  pub shown : Changes shown_before shown_now (ShowsPrefix no_memory_line rose)

-- what writing a product leaves: all of it, or what a fault or running out of memory leaves
abbrev pub Writes : Status → Product → Type 0 → Option Files → Option Files → Option (List ℕ)
    → Option (List ℕ) → Type 0
Writes status product rose before now shown_before shown_now =
    ((status ≡ end_status product.end) × WritesAll product before now shown_before shown_now)
    ⊎ ((status ≡ WriteFault) × FailsToWrite product rose before now shown_before shown_now)
    ⊎ ((status ≡ NoMemory) × RunsOut product.saves rose before now shown_before shown_now)

-- Only the text was shown, or a prefix of it where the count of write faults rose, or nothing.
pub record LeftByText {S : Type 0} (host : Ghosts S) (text : List ℕ) (old new : S) : Type 0 where
  pub files : host.files new ≡ host.files old
  pub shown : Changes (host.shown old) (host.shown new)
      (ShowsPrefix text (Rose (host.write_faults old) (host.write_faults new)))
  pub load_faults : host.load_faults new ≡ host.load_faults old
  pub write_faults : host.write_faults old ≤ host.write_faults new

-- The product was written, or what a fault or running out of memory leaves of that: the count of
-- write faults rose where a fault is answered, and is as it was where all was written.
pub record LeftByWriting {S : Type 0} (host : Ghosts S) (status : Status) (product : Product)
    (old new : S) : Type 0 where
  pub written : Writes status product (Rose (host.write_faults old) (host.write_faults new))
      (host.files old) (host.files new) (host.shown old) (host.shown new)
  pub fault : status ≡ WriteFault → Rose (host.write_faults old) (host.write_faults new)
  pub end_faults : IsTrue (is_end status) → host.write_faults new ≡ host.write_faults old
  pub load_faults : host.load_faults new ≡ host.load_faults old

-- The text of the failure was shown, or that memory ran out.
abbrev pub ShowsFailure : {S : Type 0} → Ghosts S → Failure → Status → S → S → Type 0
ShowsFailure host failure status old new =
    (text : List ℕ) × FailsWith failure status text × LeftByText host text old new
