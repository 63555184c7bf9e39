-- What a call promises of a command.
use Rattle.std.specs.Prelude.{ℕ, Bool, true, false, List, Option, IsTrue, ◌⊎◌}
use Rattle.polis_base.specs.declared.limits.TheConstants.{TEXT_MAX}
use Rattle.polis_base.specs.Host.{Files}
use Rattle.polis_words.specs.declared.cause.Cause.{Cause}
use Rattle.polis_words.specs.declared.status.Status.{Status}
use Rattle.polis_words.specs.declared.status.Status.TheVariants.{Done, Illegal, Differ}
use Rattle.output_files.specs.declared.product.Product.{Product}
use Rattle.input_files.specs.Details.{explains_in}
use Rattle.input_files.specs.Failures.{is_failure}
use Rattle.input_files.specs.Inputs.{AcceptsInputs, AcceptsNet, InputsFail, OnlyNetFails}
use Rattle.input_files.specs.declared.load.Detail.{Detail}

-- A command with what it is asked for: all that the promise of a call says of it.
pub record Meaning : Type 1 where
  -- The product is one that it makes of the files.
  pub makes : Files → Product → Type 0
  -- The files that it reads are held, within their limits, and accepted, and what it would save of
  -- them is no longer than a file may be.
  pub accepts : Files → Type 0
  -- They are accepted, and what is found of them ends it with this status in place of a product.
  pub finds : Status → Files → Type 0
  -- The file of this name isn't read or isn't accepted, or something is found of it, all files
  -- before it being accepted, and this is why.
  pub fails : Files → List ℕ → Cause → Type 0
  -- Where the file of this name fails so, this is shown after the line of the cause, by what is told
  -- of the files.
  pub explains : Option Files → List ℕ → Cause → List ℕ → Type 0
  -- Where its files are accepted it ends with this status, but for faults and running out of
  -- memory.
  pub ends : Status → Bool
  -- It reads files.
  pub reads : Bool

-- nothing is found that ends a command in place of a product
abbrev pub finds_nothing : Status → Files → Type 0
finds_nothing status files = ⊥

-- a journal is found that isn't legal, where this holds of the files
abbrev pub finds_illegal : (Files → Type 0) → Status → Files → Type 0
finds_illegal P Illegal files = P files
finds_illegal P other files = ⊥

-- tables are found that differ, where this holds of the files
abbrev pub finds_differing : (Files → Type 0) → Status → Files → Type 0
finds_differing P Differ files = P files
finds_differing P other files = ⊥

-- the one status of a command that only shows or saves what it made
abbrev pub ends_done : Status → Bool
ends_done Done = true
ends_done other = false

-- the statuses of a command that judges a journal
abbrev pub ends_judged : Status → Bool
ends_judged Done = true
ends_judged Illegal = true
ends_judged other = false

-- the statuses of a command that compares
abbrev pub ends_compared : Status → Bool
ends_compared Done = true
ends_compared Differ = true
ends_compared other = false

-- the command may end with this status, whatever the files hold
abbrev pub MayEnd : Meaning → Status → Type 0
MayEnd m status = IsTrue (m.ends status) ⊎ IsTrue (is_failure m.reads status)

-- a command that reads a network text alone and always ends with Done, by how much it says of a
-- file that is refused, and by what it makes
abbrev pub net_meaning : Detail → List ℕ → (Files → Product → Type 0) → Meaning
net_meaning detail net makes = record {
  makes = makes;
  accepts = AcceptsNet net;
  finds = finds_nothing;
  fails = OnlyNetFails net;
  explains = explains_in detail TEXT_MAX;
  ends = ends_done;
  reads = true;
}

-- one that reads a network text and a trace text of it and finds nothing of them, also by the
-- statuses with which it ends
abbrev pub inputs_meaning : Detail → List ℕ → List ℕ → (Files → Product → Type 0)
    → (Status → Bool) → Meaning
inputs_meaning detail net trace makes ends = record {
  makes = makes;
  accepts = AcceptsInputs net trace;
  finds = finds_nothing;
  fails = λ files. InputsFail files net trace;
  explains = explains_in detail TEXT_MAX;
  ends = ends;
  reads = true;
}
