-- Lines that are made of the names of an input's machine and event, and of what the input has.
use Rattle.std.specs.Prelude.{ℕ, List, flat_map}
use Rattle.std.specs.List.{zip}
use Rattle.transition_table.specs.NetworkNames.{event_name, machine_name}
use Rattle.transition_table.specs.declared.network.Network.{Network}
use Rattle.event_accounts.specs.Accounts.{Buffer, buffers}

-- the line of a buffer that has x
abbrev pub input_line : {X : Type 0} → (List ℕ → List ℕ → X → List ℕ) → Network
    → Buffer × X → List ℕ
input_line line net (b, x) = line (machine_name net b.machine) (event_name net b.event) x

-- a line for each buffer, in order
abbrev pub input_lines : {X : Type 0} → (List ℕ → List ℕ → X → List ℕ) → Network → List X
    → List ℕ
input_lines line net xs = flat_map (input_line line net) (zip (buffers net) xs)
