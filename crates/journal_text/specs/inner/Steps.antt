-- One step of reading a list of items.
use Rattle.std.specs.Prelude.{◌≡◌, ℕ, List, ◌∷◌, ◌++◌, Result, Err}
use Rattle.journal_text.specs.Forms.{Texts}
use Rattle.journal_text.specs.Items.{Named, map_read}
use Rattle.journal_text.specs.declared.fault.JournalKind.{JournalKind}

-- the codes of the inputs and then the values of the state variables
abbrev pub whole : List ℕ × List ℕ → List ℕ
whole (present, values) = present ++ values

-- what the items of a list give things
abbrev pub ReadsItems : Type 0
ReadsItems = List Named → Texts → Result (List ℕ) JournalKind

-- Whatever things are after it, a thing takes what it has from the items: these are left, and the
-- old codes have become the new ones.
abbrev pub Takes : ReadsItems → Named → Texts → List ℕ → List ℕ → Texts → Type 0
Takes read named items old new after = (things : List Named)
    → map_read (λ more. old ++ more) (read (named ∷ things) items)
    ≡ map_read (λ more. new ++ more) (read things after)

-- whatever things are after it, the next item has this fault
abbrev pub Halts : ReadsItems → Named → Texts → JournalKind → Type 0
Halts read named items kind = (things : List Named) → read (named ∷ things) items ≡ Err kind
