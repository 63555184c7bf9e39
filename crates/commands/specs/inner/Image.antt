-- What images are found to be, and what `image` makes of a network.
use Rattle.std.specs.Prelude.{◌≡◌, ℕ, ◌<◌, ◌≤◌, List, length}
use Rattle.polis_base.specs.declared.limits.TheConstants.{LONG_FILE_MAX}
use Rattle.transition_table.specs.declared.network.Network.{Network}
use Rattle.task_code.specs.Listings.{Part}
use Rattle.machine_compiler.specs.Parts.{AreRightParts}
use Rattle.task_image.specs.declared.finding.Verify.TheVariants.{Fits, Shape}
use Rattle.task_image.specs.declared.image.ImageMachine.{ImageMachine}
use Rattle.task_image.specs.Decoding.{AreBytesOf}
use Rattle.task_image.specs.Fields.{ImageBytes}
use Rattle.task_image.specs.Images.{IsImage}
use Rattle.task_image.specs.Verifying.{Verifies}
use Rattle.polis_words.specs.declared.cause.Cause.{Cause}
use Rattle.polis_words.specs.declared.cause.Cause.TheVariants.{ImageShape, ImageWrong, ImageLong}
use Rattle.polis_words.specs.NetStem.{NetStemWords}
use Rattle.output_files.specs.declared.product.Product.{Product}
use Rattle.commands.specs.Image.{image_of_parts, image_product}
use Rattle.commands.specs.ImageFiles.{IsWrongText}

-- the bytes are those of the image, and each of its codes gives its machine's transition
pub record IsFittingImage (net : Network) (bytes : List ℕ) (image : List ImageMachine) : Type 0
  where
    pub are_bytes : AreBytesOf image bytes
    pub fits : Verifies image net Fits

-- why an image isn't one of the network
abbrev pub IsMisfit : Network → List ImageMachine → Cause → Type 0
IsMisfit net image (ImageShape number) = Verifies image net (Shape number)
IsMisfit net image (ImageWrong printed) = IsWrongText net image printed
IsMisfit net image other = ⊥

-- the product is that of the bytes of an image of the network
pub record IsImageProduct (asked : NetStemWords) (net : Network) (product : Product) : Type 0 where
  pub parts : List Part
  pub right : AreRightParts net parts
  pub bytes : List ℕ
  pub are_bytes : AreBytesOf (image_of_parts net parts) bytes
  pub within : length bytes ≤ LONG_FILE_MAX
  pub made : product ≡ image_product asked.stem bytes

-- the image is too long
abbrev pub IsLongImage : Network → Cause → Type 0
IsLongImage net ImageLong = (parts : List Part) × AreRightParts net parts
    × (LONG_FILE_MAX < length (ImageBytes (image_of_parts net parts)))
IsLongImage net other = ⊥

-- the image is that of a network's machines, each of which was compiled rightly
pub record IsNetImage (net : Network) (image : List ImageMachine) : Type 0 where
  pub parts : List Part
  pub right : AreRightParts net parts
  pub image_is : image ≡ image_of_parts net parts
  pub is_image : IsImage image
