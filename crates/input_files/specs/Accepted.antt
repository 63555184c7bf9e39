-- The texts that are accepted, and the conflicts of those that are not.
use Rattle.std.specs.Prelude.{◌≡◌, ◌<◌, ℕ, List, slice_get, Some}
use Rattle.transition_table.specs.declared.machine.Machine.{Machine}
use Rattle.transition_table.specs.declared.network.Network.{Network}
use Rattle.transition_table.specs.declared.snapshot.Snapshot.{Snapshot}
use Rattle.transition_table.specs.Transitions.{IsDeterministic, AreDeterministic}
use Rattle.net_reader.specs.declared.raw.RawNet.{RawNet}
use Rattle.net_reader.specs.Sentences.{HasNet}
use Rattle.net_rules.specs.NetOf.{IsNetOf, NetOf}
use Rattle.determinism.specs.Conflicts.{IsLeastConflict}
use Rattle.journal_text.specs.Texts.{snapshot_text}
use Rattle.polis_words.specs.declared.cause.Conflict.{Conflict}

-- the bytes are a text of the network, and each of its machines is deterministic
abbrev pub Accepted : List ℕ → Network → Type 0
Accepted text net = NetOf text net × AreDeterministic net

-- the bytes are accepted as a text of the network, and these are its declarations
pub record Declares (text : List ℕ) (raw : RawNet) (net : Network) : Type 0 where
  pub has : HasNet text raw
  pub is_net : IsNetOf raw net
  pub deterministic : AreDeterministic net

-- these rows of the machine conflict, and are its least conflict
pub record IsConflictIn (net : Network) (machine : Machine) (rows : Conflict) : Type 0 where
  pub name_is : rows.name ≡ machine.name
  pub read : Snapshot
  pub conflict : IsLeastConflict machine rows.row_a rows.row_b read
  pub printed_is : rows.snapshot ≡ snapshot_text net machine read.codes

-- each machine before the place is deterministic
abbrev pub AreBefore : Network → ℕ → Type 0
AreBefore net place = (k : ℕ) (machine : Machine) → k < place
    → slice_get net.machines k ≡ Some machine → IsDeterministic machine

-- these rows are those of the first machine that isn't deterministic
pub record IsFirstConflict (net : Network) (rows : Conflict) : Type 0 where
  pub machine : Machine
  pub there : slice_get net.machines rows.machine ≡ Some machine
  pub before : AreBefore net rows.machine
  pub conflict : IsConflictIn net machine rows
