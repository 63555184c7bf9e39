-- What `image` makes.
use Rattle.std.specs.Prelude.{◌≡◌, ◌⊎◌, ℕ, ◌<◌, ◌≤◌, true, List, ◌++◌, length, codes}
use Rattle.polis_base.specs.declared.limits.TheConstants.{LONG_FILE_MAX}
use Rattle.polis_base.specs.Host.{Files}
use Rattle.transition_table.specs.declared.network.Network.{Network}
use Rattle.task_code.specs.Listings.{Part}
use Rattle.machine_compiler.specs.Parts.{AreRightParts, codes_in}
use Rattle.task_image.specs.declared.image.ImageMachine.{ImageMachine}
use Rattle.task_image.specs.Decoding.{AreBytesOf}
use Rattle.task_image.specs.Fields.{ImageBytes}
use Rattle.task_image.specs.Images.{image_of}
use Rattle.polis_words.specs.declared.cause.Cause.{Cause}
use Rattle.polis_words.specs.declared.cause.Cause.TheVariants.{ImageLong}
use Rattle.polis_words.specs.NetStem.{NetStemWords}
use Rattle.polis_words.specs.Texts.{image_text}
use Rattle.output_files.specs.declared.product.Product.{Product}
use Rattle.input_files.specs.Inputs.{HoldsNet, NetFails}
use Rattle.output_files.specs.Products.{saves_one}
use Rattle.commands.specs.Meanings.{Meaning, finds_nothing, ends_done}
use Rattle.input_files.specs.Failures.{explains_nothing}

-- the image of a network's machines: the name and sizes of each, with the code that it was compiled
-- to
abbrev pub image_of_parts : Network → List Part → List ImageMachine
image_of_parts net parts = image_of net.machines (codes_in parts)

-- the product saves the bytes, and shows how many these are
abbrev pub image_product : List ℕ → List ℕ → Product
image_product stem bytes = saves_one (stem ++ codes ".img") bytes (image_text (length bytes))

-- The file holds a network that is accepted, each of its machines was compiled rightly, these are
-- the bytes of their image, no more than a file may have, and the product is that of these.
pub record MakesImage (image : NetStemWords) (files : Files) (product : Product) : Type 0 where
  pub net : Network
  pub holds_net : HoldsNet files image.net net
  pub parts : List Part
  pub right : AreRightParts net parts
  pub bytes : List ℕ
  pub are_bytes : AreBytesOf (image_of_parts net parts) bytes
  pub within : length bytes ≤ LONG_FILE_MAX
  pub made : product ≡ image_product image.stem bytes

-- The file holds a network that is accepted, and P holds of the length of its image. A network has
-- one list of right parts, and so one image.
pub record HasImage (image : NetStemWords) (files : Files) (P : ℕ → Type 0) : Type 0 where
  pub net : Network
  pub holds_net : HoldsNet files image.net net
  pub parts : List Part
  pub right : AreRightParts net parts
  pub long : P (length (ImageBytes (image_of_parts net parts)))

-- the image is no longer than a file may be
abbrev pub HasShortImage : NetStemWords → Files → Type 0
HasShortImage image files = HasImage image files (λ n. n ≤ LONG_FILE_MAX)

-- it is longer
abbrev pub HasLongImage : NetStemWords → Files → Type 0
HasLongImage image files = HasImage image files (λ n. LONG_FILE_MAX < n)

-- why the file of an image fails: the network does, or its image is too long
abbrev pub FailsImage : NetStemWords → Files → List ℕ → Cause → Type 0
FailsImage image files name cause = (name ≡ image.net)
    × (NetFails files image.net cause ⊎ ((cause ≡ ImageLong) × HasLongImage image files))

abbrev pub image_meaning : NetStemWords → Meaning
image_meaning image = record {
  makes = MakesImage image;
  accepts = HasShortImage image;
  finds = finds_nothing;
  fails = FailsImage image;
  explains = explains_nothing;
  ends = ends_done;
  reads = true;
}
