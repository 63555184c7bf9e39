-- What is gathered.
use Rattle.std.specs.Prelude.{◌⊎◌, ℕ, ◌≤◌, List, length}
use Rattle.transition_table.specs.declared.network.Network.{Network}
use Rattle.journals.specs.declared.entry.Entry.{Entry}
use Rattle.journals.specs.declared.entry.TraceItem.{TraceItem}
use Rattle.journals.specs.Legality.{Complete}

-- the journal has so many entries at least, or is complete
abbrev pub IsEnough : Network → List TraceItem → ℕ → List Entry → Type 0
IsEnough net trace least journal = (least ≤ length journal) ⊎ Complete net trace journal
