-- What is written of a network's compiled machines.
use Rattle.std.specs.Prelude.{◌≡◌, List}
use Rattle.transition_table.specs.declared.network.Network.{Network}
use Rattle.task_code.specs.Listings.{Part, ListingText}
use Rattle.machine_compiler.specs.Parts.{AreRightParts}
use Rattle.machine_compiler.specs.Lines.{lengths_text}
use Rattle.machine_compiler.specs.declared.texts.Texts.{Texts}

-- each machine was compiled rightly, and the texts are those of the parts
pub record AreTexts (net : Network) (texts : Texts) : Type 0 where
  pub parts : List Part
  pub right : AreRightParts net parts
  pub listing : texts.listing ≡ ListingText net parts
  pub lengths : texts.lengths ≡ lengths_text net parts
