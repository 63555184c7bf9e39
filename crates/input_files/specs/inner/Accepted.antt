-- Why a text isn't accepted, step by step.
use Rattle.std.specs.Prelude.{◌≡◌, ℕ}
use Rattle.net_reader.specs.declared.raw.RawNet.{RawNet}
use Rattle.transition_table.specs.declared.machine.Machine.{Machine}
use Rattle.transition_table.specs.declared.network.Network.{Network}
use Rattle.polis_words.specs.declared.cause.Cause.{Cause}
use Rattle.polis_words.specs.declared.cause.Cause.TheVariants.{Conflict}
use Rattle.input_files.specs.Accepted.{IsConflictIn, IsFirstConflict}
use Rattle.input_files.specs.Places.{StandThere}

-- why the k-th machine of the network isn't said to be deterministic
abbrev pub IsMachineFault : RawNet → Network → ℕ → Machine → Cause → Type 0
IsMachineFault raw net k machine (Conflict rows) =
    (rows.machine ≡ k) × StandThere raw rows × IsConflictIn net machine rows
IsMachineFault raw net k machine other = ⊥

-- why the machines of the network aren't said to be deterministic
abbrev pub IsConflictFault : RawNet → Network → Cause → Type 0
IsConflictFault raw net (Conflict rows) = StandThere raw rows × IsFirstConflict net rows
IsConflictFault raw net other = ⊥
