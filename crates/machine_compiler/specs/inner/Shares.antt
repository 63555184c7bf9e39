-- What workers compile, each a share of the machines.
use Rattle.std.specs.Prelude.{◌≡◌, ℕ, List, Option, Some, length, slice_get}
use Rattle.transition_table.specs.declared.machine.Machine.{Machine}
use Rattle.transition_table.specs.declared.network.Network.{Network}
use Rattle.machine_compiler.specs.declared.compiled.Compiled.{Compiled}
use Rattle.machine_compiler.specs.declared.shares.CompiledAt.{CompiledAt}
use Rattle.machine_compiler.specs.Parts.{IsRightPart, part_of_compiled}

-- right for the machine of this number
abbrev pub IsRightAt : Network → ℕ → Compiled → Type 0
IsRightAt net k compiled =
    (m : Machine) → slice_get net.machines k ≡ Some m → IsRightPart m (part_of_compiled compiled)

-- each is right for the machine of its number
abbrev pub AreRightEach : Network → List CompiledAt → Type 0
AreRightEach net share =
    (i : ℕ) (one : CompiledAt)
    → slice_get share i ≡ Some one
    → IsRightAt net one.number one.compiled

-- what stands at the place of this number, if anything does, is right for the machine there
abbrev pub StandsAt : Network → ℕ → Option Compiled → Type 0
StandsAt net k place = (compiled : Compiled) → place ≡ Some compiled → IsRightAt net k compiled

-- a place for each machine
pub record HasPlaces (net : Network) (places : List (Option Compiled)) : Type 0 where
  pub long : length places ≡ length net.machines
  pub right :
      (k : ℕ) (place : Option Compiled)
      → slice_get places k ≡ Some place
      → StandsAt net k place
