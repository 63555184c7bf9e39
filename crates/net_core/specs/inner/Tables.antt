-- What is kept beside a journal.
use Rattle.std.specs.Prelude.{◌≡◌, ℕ, List, ◌++◌}
use Rattle.transition_table.specs.declared.network.Network.{Network}
use Rattle.transition_table.specs.declared.snapshot.Snapshot.{Snapshot}
use Rattle.journals.specs.declared.entry.Entry.{Entry}
use Rattle.journals.specs.declared.entry.Owed.{Owed}
use Rattle.journals.specs.declared.entry.TraceItem.{TraceItem}
use Rattle.journals.specs.Legality.{MayFollow}
use Rattle.journals.specs.Schedules.{firing_deliveries, owed_by_machines}
use Rattle.net_core.specs.Tables.{AreTables}

-- The tables of a journal, but that what the entry gives is owed already. The entry may follow.
pub record AreBefore (net : Network) (trace : List TraceItem) (journal : List Entry) (entry : Entry)
    (readers : List ℕ) (moments : List Snapshot) (woken : ℕ) (cursors : List ℕ) (owed : List Owed) :
    Type 0 where
  pub follows : MayFollow net trace journal entry
  pub tables : AreTables net trace journal readers moments woken cursors
      (owed_by_machines net journal)
  pub owed_are : owed ≡ owed_by_machines net journal ++ firing_deliveries net entry
