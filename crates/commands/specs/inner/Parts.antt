-- A product of right parts.
use Rattle.std.specs.Prelude.{◌≡◌, List}
use Rattle.transition_table.specs.declared.network.Network.{Network}
use Rattle.task_code.specs.Listings.{Part}
use Rattle.machine_compiler.specs.Parts.{AreRightParts}
use Rattle.output_files.specs.declared.product.Product.{Product}

-- it is this of right parts of the network's machines
abbrev pub IsOfParts : (Network → List Part → Product) → Network → Product → Type 0
IsOfParts of net product = (parts : List Part) × AreRightParts net parts
    × (product ≡ of net parts)
