-- What an image file holds, and why one isn't read or isn't one of the network.
use Rattle.std.specs.Prelude.{◌≡◌, ◌⊎◌, ℕ, List, slice_get, Some}
use Rattle.polis_base.specs.declared.limits.TheConstants.{LONG_FILE_MAX}
use Rattle.polis_base.specs.Host.{Files}
use Rattle.transition_table.specs.declared.machine.Machine.{Machine}
use Rattle.transition_table.specs.declared.network.Network.{Network}
use Rattle.transition_table.specs.declared.snapshot.Snapshot.{Snapshot}
use Rattle.task_image.specs.declared.image.ImageMachine.{ImageMachine}
use Rattle.task_image.specs.declared.finding.Verify.TheVariants.{Fits, Shape, Wrong}
use Rattle.task_image.specs.Decoding.{AreBytesOf, BreaksAt}
use Rattle.task_image.specs.Verifying.{Verifies}
use Rattle.polis_words.specs.declared.cause.Cause.{Cause}
use Rattle.polis_words.specs.declared.cause.Cause.TheVariants.{ImageByte, ImageShape, ImageWrong}
use Rattle.polis_words.specs.Texts.{machine_snapshot_text}
use Rattle.input_files.specs.Inputs.{HoldsText, LoadFails}

-- the bytes of an image are held under the name, within their limit, and each of its codes gives
-- the transition of the network's machine of its number
pub record HoldsImage (files : Files) (name : List ℕ) (net : Network) (image : List ImageMachine) :
    Type 0 where
  pub text : List ℕ
  pub holds : HoldsText files LONG_FILE_MAX name text
  pub bytes : AreBytesOf image text
  pub fits : Verifies image net Fits

-- this is printed of the first machine whose code is wrong, with the least snapshot on which it is
pub record IsWrongText (net : Network) (image : List ImageMachine) (printed : List ℕ) : Type 0
  where
    pub number : ℕ
    pub snapshot : Snapshot
    pub wrong : Verifies image net (Wrong number snapshot)
    pub machine : Machine
    pub there : slice_get net.machines number ≡ Some machine
    pub printed_is : printed ≡ machine_snapshot_text net machine snapshot

-- What the bytes say where this is why they aren't accepted: a field at this place is at fault;
-- they are those of an image, which hasn't the network's shape from the machine of this number on,
-- or whose code is wrong.
abbrev pub IsImageFault : Network → List ℕ → Cause → Type 0
IsImageFault net text (ImageByte place) = BreaksAt text place
IsImageFault net text (ImageShape number) =
    (image : List ImageMachine) × AreBytesOf image text × Verifies image net (Shape number)
IsImageFault net text (ImageWrong printed) =
    (image : List ImageMachine) × AreBytesOf image text × IsWrongText net image printed
IsImageFault net text other = ⊥

-- why the image of this name isn't loaded or isn't accepted as one of the network
abbrev pub ImageFails : Files → Network → List ℕ → Cause → Type 0
ImageFails files net name cause = LoadFails files LONG_FILE_MAX name cause
    ⊎ ((text : List ℕ) × HoldsText files LONG_FILE_MAX name text × IsImageFault net text cause)
