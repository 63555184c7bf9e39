-- What is kept beside a journal.
use Rattle.std.specs.Prelude.{◌≡◌, ℕ, List, map, length, ◌<◌, ◌≤◌, ◌==◌}
use Rattle.std.specs.Int.{bit_at}
use Rattle.polis_base.specs.Lists.{upto}
use Rattle.transition_table.specs.declared.network.Network.{Network}
use Rattle.transition_table.specs.declared.snapshot.Snapshot.{Snapshot}
use Rattle.journals.specs.declared.entry.Entry.{Entry}
use Rattle.journals.specs.declared.entry.Owed.{Owed}
use Rattle.journals.specs.declared.entry.TraceItem.{TraceItem}
use Rattle.journals.specs.Journals.{IsTrace, is_woken}
use Rattle.journals.specs.Cursors.{cursor}
use Rattle.journals.specs.Legality.{Legal}
use Rattle.journals.specs.Schedules.{owed_by_machines}
use Rattle.journals.specs.Moved.{moments_of}
use Rattle.net_core.specs.Readers.{AreReaders}

-- each table is what the journal gives
pub record AreTables (net : Network) (trace : List TraceItem) (journal : List Entry)
    (readers : List ℕ) (moments : List Snapshot) (woken : ℕ) (cursors : List ℕ) (owed : List Owed) :
    Type 0 where
  pub fits : IsTrace net trace
  pub legal : Legal net trace journal
  pub readers_are : AreReaders net readers
  pub moments_are : moments ≡ moments_of net journal
  pub woken_are : (m : ℕ) → m < length net.machines → (bit_at woken m == 1) ≡ is_woken journal m
  pub no_others : (m : ℕ) → length net.machines ≤ m → bit_at woken m ≡ 0
  pub cursors_are : cursors ≡ map (cursor net trace journal) (upto (length net.machines))
  pub owed_are : owed ≡ owed_by_machines net journal
