-- Laws of waves.
use Rattle.std.specs.Prelude.{◌≡◌, ℕ, ◌<◌, List, [], map, flat_map, length, take, drop, Some}
use Rattle.polis_base.specs.Lists.{upto}
use Rattle.transition_table.specs.declared.network.Network.{Network}
use Rattle.journals.specs.declared.entry.Entry.{Entry}
use Rattle.journals.specs.Journals.{snap}
use Rattle.wave_text.specs.Signals.{changes_at, signal_codes, first_number, played, snapshot_signals}

-- the codes after no entries, with the changes of the first p entries put in one after the other,
-- are the codes after those entries
abbrev pub ChangesGiveCodes : Type 0
ChangesGiveCodes =
    (net : Network) (journal : List Entry) (p : ℕ)
    → played (signal_codes net []) (flat_map (changes_at net journal) (upto p))
    ≡ signal_codes net (take p journal)

-- So whoever plays the changes back has the snapshot of each machine at each moment: its codes
-- stand from the machine's first signal on.
abbrev pub ChangesGiveSnapshots : Type 0
ChangesGiveSnapshots =
    (net : Network) (journal : List Entry) (p m : ℕ)
    → m < length net.machines
    → let codes = played (signal_codes net []) (flat_map (changes_at net journal) (upto p)) in
    take (length (snapshot_signals net m)) (drop (first_number net m) codes)
    ≡ map Some (snap net (take p journal) m).codes

-- what follows from the definitions
pub record WaveLaws : Type 0 where
  pub codes : ChangesGiveCodes
  pub snapshots : ChangesGiveSnapshots
