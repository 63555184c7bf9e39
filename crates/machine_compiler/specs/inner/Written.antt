-- What is written of a machine.
use Rattle.std.specs.Prelude.{◌≡◌, ℕ, List, ◌++◌}
use Rattle.polis_base.specs.Lines.{line}
use Rattle.transition_table.specs.declared.machine.Machine.{Machine}
use Rattle.transition_table.specs.declared.network.Network.{Network}
use Rattle.task_code.specs.Listings.{Part, part_text}
use Rattle.machine_compiler.specs.Lines.{lengths}
use Rattle.machine_compiler.specs.Parts.{IsRightPart}

-- the text of a right part is added to the listing, and its line to the lines of lengths
pub record IsWritten (net : Network) (m : Machine) (text text' sizes sizes' : List ℕ) :
    Type 0 where
  pub part : Part
  pub right : IsRightPart m part
  pub listed : text' ≡ text ++ part_text net m part
  pub measured : sizes' ≡ sizes ++ line (lengths m part)
